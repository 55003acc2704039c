-- `track_set_and_remove_from_usage_scope_sparse`: the call beneath, told in numbers.
use Rattle.model.specs.Prelude.{refl}
use Rattle.exports.proofs.AnswerLaws.{outcome_told}
use Rattle.exports.proofs.trackers.track_set_and_remove_from_usage_scope_sparse.Goals as goal

pub returns : goal.returns
returns c =
    rw (c.logged.ensures, outcome_told _) (record { value = refl; fact = c.set_and_remove_from_usage_scope_sparse-x.ensures })
