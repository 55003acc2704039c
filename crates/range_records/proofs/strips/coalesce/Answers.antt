-- `coalesce` is its passes, and these are the model's call.
use Rattle.std.proofs.lemmas.Result.{err_from_is_err_and}
use Rattle.range_records.proofs.Laws.Together.{coalesce_of}
use Rattle.range_records.proofs.strips.coalesce.Goals as goal

pub returns-in_err-check_order : goal.returns-in_err-check_order
returns-in_err-check_order c =
    let p = err_from_is_err_and c.from_residual.result c.from_residual.ensures.1 in
    let i = coalesce_of c.args.told c.args.run.now c.min-n.ensures c.survey-s.ensures c.in_err-check_order.ensures.is in
    rw (p.1, p.2) (i.answer, i.records)

pub returns : goal.returns
returns c =
    let i = coalesce_of c.args.told c.args.run.now c.min-n.ensures c.survey-s.ensures c.in_ok-check_order.ensures.is in
    let j = rw (← c.min-n.ensures, ← c.join-len.ensures) at i in
    (j.answer, j.records)
