-- `track_iter_filter`: the call beneath, told in numbers.
use Rattle.model.specs.Prelude.{refl}
use Rattle.exports.specs.RangesAnswerLaws.{filter_told_lem}
use Rattle.exports.proofs.ranged.track_iter_filter.Goals as goal

pub returns : goal.returns
returns c =
    rw (c.filtered.ensures, filter_told_lem _) (record { value = refl; filters = c.iter_filter.ensures })
