-- `cut_end` leaves the record or makes two of it.
use Rattle.range_isolate.proofs.Covering.{uncut, cut}
use Rattle.range_isolate.proofs.isolation.cut_end.Goals as goal

pub returns-then-r-end : goal.returns-then-r-end
returns-then-r-end c = search uncut

pub returns : goal.returns
returns c = search cut
