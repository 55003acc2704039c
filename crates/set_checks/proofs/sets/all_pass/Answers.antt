-- `all_pass`: one index more is one test more.
use Rattle.set_checks.proofs.{Passing.{passes_more}}
use Rattle.set_checks.proofs.sets.all_pass.Goals as goal

pub loop-i-preserved : goal.loop-i-preserved
loop-i-preserved c = passes_more _ _ c.loop-i.invariant c.owned_passes-pass.ensures
