-- `track_set_single`: the call beneath, told in numbers.
use Rattle.model.specs.Prelude.{refl}
use Rattle.exports.proofs.AnswerLaws.{outcome_told}
use Rattle.exports.proofs.trackers.track_set_single.Goals as goal

pub returns : goal.returns
returns c =
    rw (c.logged.ensures, outcome_told _) (record { value = refl; fact = rw c.new-named.ensures at c.set_single-x.ensures })
