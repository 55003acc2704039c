-- `track_read_plan`: the call beneath, told in numbers.
use Rattle.model.specs.Prelude.{refl}
use Rattle.exports.specs.PlanAnswers.{counted_told}
use Rattle.exports.proofs.plans.track_read_plan.Goals as goal

pub returns : goal.returns
returns c =
    rw (c.from.ensures, counted_told _) (record { value = refl; plan_read = c.read.ensures })
