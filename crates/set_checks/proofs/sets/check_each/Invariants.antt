-- `check_each`: no index has failed so far.
use Rattle.std.specs.Prelude.{◌<◌, ◌≡◌}
use Rattle.model.specs.Prelude.{ℕ, None}
use Rattle.set_checks.specs.Sets.{owned_refusal}
use Rattle.set_checks.proofs.sets.check_each.Given as goal

abbrev pub invariant-loop-i : goal.invariant-loop-i
invariant-loop-i l = (k : ℕ) → k < l.i → owned_refusal l.table l.given k ≡ None
