-- `track_scope_is_well_formed`: the test, as a number.
use Rattle.std.specs.Prelude.{if◌then◌else◌}
use Rattle.model.specs.Prelude.{Bool, ap, ◌∙◌}
use Rattle.exports.proofs.AnswerLaws.{flag_is}
use Rattle.exports.proofs.sets.track_scope_is_well_formed.Goals as goal

pub returns : goal.returns
returns c = c.from.ensures ∙ flag_is c.scope_fits.result ∙ ap (λ (b : Bool). if b then 1 else 0) c.scope_fits.ensures.is
