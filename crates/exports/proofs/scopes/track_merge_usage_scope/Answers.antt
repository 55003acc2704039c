-- `track_merge_usage_scope`: the call beneath, told in numbers.
use Rattle.model.specs.Prelude.{refl}
use Rattle.exports.proofs.AnswerLaws.{outcome_told}
use Rattle.exports.proofs.scopes.track_merge_usage_scope.Goals as goal

pub returns : goal.returns
returns c =
    rw (c.from.ensures, outcome_told _) (record { value = refl; fact = c.merge_usage_scope.ensures })
