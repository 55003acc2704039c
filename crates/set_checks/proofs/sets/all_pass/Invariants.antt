-- `all_pass`: where all have passed so far, each does.
use Rattle.std.specs.Prelude.{◌≡◌}
use Rattle.model.specs.Prelude.{true}
use Rattle.set_checks.specs.Sets.{AllPass}
use Rattle.set_checks.proofs.sets.all_pass.Given as goal

abbrev pub invariant-loop-i : goal.invariant-loop-i
invariant-loop-i l = l.pass ≡ true → AllPass l.table l.given l.i
