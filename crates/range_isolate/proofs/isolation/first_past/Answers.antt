-- `first_past` looks at one record after another.
use Rattle.range_isolate.proofs.Isolating.{look_on, look_here, look_end}
use Rattle.range_isolate.proofs.isolation.first_past.Goals as goal

pub returns-then-x-get : goal.returns-then-x-get
returns-then-x-get c = search look_here

pub loop-k-preserved : goal.loop-k-preserved
loop-k-preserved c = search look_on

pub returns : goal.returns
returns c = search look_end
