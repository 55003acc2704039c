-- What is taken away is no more than there is.
use Rattle.model.specs.Prelude.{arith, refl, and_le_r}
use Rattle.model.specs.StateRules.{less}
use Rattle.usage.proofs.less.Goals as goal

pub overflow_sub-result : goal.overflow_sub-result
overflow_sub-result c = omega (arith, and_le_r c.args.bits c.args.s)

pub returns : goal.returns
unfolding less
returns c = refl
