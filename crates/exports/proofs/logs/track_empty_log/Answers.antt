-- `track_empty_log`: the call beneath, told in numbers.
use Rattle.model.specs.Prelude.{refl}
use Rattle.exports.proofs.AnswerLaws.{outcome_told}
use Rattle.exports.proofs.logs.track_empty_log.Goals as goal

pub returns : goal.returns
returns c =
    rw (c.logged.ensures, outcome_told _) (record { value = refl; emptying = c.empty_log.ensures })
