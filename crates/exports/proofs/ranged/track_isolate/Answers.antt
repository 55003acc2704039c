-- `track_isolate`: the call beneath, told in numbers.
use Rattle.model.specs.Prelude.{refl}
use Rattle.exports.specs.RangesAnswerLaws.{isolate_told_lem}
use Rattle.exports.proofs.ranged.track_isolate.Goals as goal

pub returns : goal.returns
returns c =
    rw (c.isolated.ensures, isolate_told_lem _) (record { value = refl; isolates = c.isolate.ensures })
