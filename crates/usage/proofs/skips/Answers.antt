-- `skips` is the definition's two comparisons, in its order.
use Rattle.model.specs.StateRules.{skip_barrier}
use Rattle.usage.proofs.{Comparisons.tests}
use Rattle.usage.proofs.skips.Goals as goal

pub returns-then-old-new : goal.returns-then-old-new
unfolding skip_barrier
returns-then-old-new c = search tests

pub returns-else-old-new : goal.returns-else-old-new
unfolding skip_barrier
returns-else-old-new c = search tests
