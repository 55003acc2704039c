-- `track_plan_uses`: the call beneath, told in numbers.
use Rattle.model.specs.Prelude.{refl}
use Rattle.exports.specs.PlanAnswers.{counted_told}
use Rattle.exports.proofs.plans.track_plan_uses.Goals as goal

pub returns : goal.returns
returns c =
    rw (c.from.ensures, counted_told _) (record { value = refl; uses_listed = c.uses.ensures })
