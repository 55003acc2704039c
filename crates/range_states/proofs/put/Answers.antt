-- Three stores are a `Put`.
use Rattle.model.specs.Prelude.{arith}
use Rattle.range_states.specs.View.{puts}
use Rattle.range_states.proofs.put.Goals as goal

pub returns : goal.returns
returns c = puts c.args.s.now c.args.k c.args.r (omega arith)
