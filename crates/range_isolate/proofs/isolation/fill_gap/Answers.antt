-- `fill_gap` inserts a record or none.
use Rattle.range_isolate.proofs.Covering.{gapped_yes, gapped_no}
use Rattle.range_isolate.proofs.isolation.fill_gap.Goals as goal

pub returns-then-at-start : goal.returns-then-at-start
returns-then-at-start c = search gapped_yes

pub returns-else-at-start : goal.returns-else-at-start
returns-else-at-start c = search gapped_no
