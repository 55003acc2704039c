-- `check_sparse`: no listed index has failed so far.
use Rattle.std.specs.Prelude.{◌<◌, ◌≡◌}
use Rattle.model.specs.Prelude.{ℕ, None}
use Rattle.set_checks.specs.Sets.{listed_at}
use Rattle.set_checks.proofs.sets.check_sparse.Given as goal

abbrev pub invariant-loop-i : goal.invariant-loop-i
invariant-loop-i l = (k : ℕ) → k < l.i-index → listed_at l.table l.given l.indices k ≡ None
