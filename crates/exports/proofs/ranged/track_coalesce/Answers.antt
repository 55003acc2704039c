-- `track_coalesce`: the call beneath, told in numbers.
use Rattle.model.specs.Prelude.{refl}
use Rattle.exports.specs.RangesAnswerLaws.{coalesce_told_lem}
use Rattle.exports.proofs.ranged.track_coalesce.Goals as goal

pub returns : goal.returns
returns c =
    rw (c.coalesced.ensures, coalesce_told_lem _) (record { value = refl; coalesces = c.coalesce.ensures })
