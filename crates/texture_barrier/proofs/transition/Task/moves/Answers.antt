-- `moves` makes the definition's three tests, in its order.
use Rattle.model.specs.Prelude.{inl, inr}
use Rattle.texture_barrier.specs.Steps.{moves_is}
use Rattle.usage.proofs.Comparisons.{tests}
use Rattle.texture_barrier.proofs.transition.Task.moves.Goals as goal

pub returns-then-old-self : goal.returns-then-old-self
returns-then-old-self c = rw moves_is (elim c.then-old-self.either [ inl e ↦ search tests | inr e ↦ search tests ])

pub returns : goal.returns
returns c = rw (moves_is, c.skips.ensures) (search tests)
