-- `weave_both` moves the entry that goes next, until a log is used up.
use Rattle.std.specs.Prelude.{◌+◌}
use Rattle.model.specs.Prelude.{length}
use Rattle.log_merge.proofs.Weaving.{Weaving}
use Rattle.log_merge.proofs.weave.weave_both.Given as goal

abbrev pub invariant-loop-y : goal.invariant-loop-y
invariant-loop-y l = Weaving l.first l.second l.initial.third l.at l.k l.a l.b l.x l.y l.third

abbrev pub decreases-loop-y : goal.decreases-loop-y
decreases-loop-y l = length l.a + length l.b
