-- `iter_filter` is its passes, and these are the model's call.
use Rattle.std.proofs.lemmas.Result.{err_from_is_err_and}
use Rattle.range_records.proofs.Laws.Together.{filter_of}
use Rattle.range_records.proofs.strips.iter_filter.Goals as goal

pub returns-in_err-count : goal.returns-in_err-count
returns-in_err-count c =
    let p = err_from_is_err_and c.from_residual.result c.from_residual.ensures.1 in let a = c.args in
    let i = filter_of a.start a.end a.told a.run.now a.out.now c.min-n.ensures c.survey-s.ensures c.in_err-count.ensures in
    rw (p.1, p.2) (i.answer, i.records)

pub clip-requires : goal.clip-requires
clip-requires c =
    let a = c.args in
    let i = filter_of a.start a.end a.told a.run.now a.out.now c.min-n.ensures c.survey-s.ensures c.in_ok-count.ensures in
    rw (c.survey-s.ensures, c.min-n.ensures) (i.fits, i.room)

pub returns : goal.returns
returns c =
    let a = c.args in
    let i = filter_of a.start a.end a.told a.run.now a.out.now c.min-n.ensures c.survey-s.ensures c.in_ok-count.ensures in
    rw (c.clip.ensures, c.survey-s.ensures, c.min-n.ensures) (i.answer, i.records)
