-- `isolate` is its passes, and these are the model's call.
use Rattle.model.specs.Prelude.{arith, length, take, length-take}
use Rattle.std.specs.Prelude.{◌≤◌}
use Rattle.std.proofs.lemmas.Result.{err_from_is_err_and}
use Rattle.range_records.proofs.{Laws.Survey.scanned_few, Laws.Together.isolate_of}
use Rattle.range_records.proofs.strips.isolate.Goals as goal

pub plan_isolate-requires-clause-few : goal.plan_isolate-requires-clause-few
plan_isolate-requires-clause-few c =
    let rs = take c.min-n.result c.args.run.now in
    let few : length rs ≤ 2305843009213693951 = omega (arith, length-take c.min-n.result c.args.run.now) in
    rw c.survey-s.ensures (scanned_few c.args.start c.args.end 2305843009213693951 rs few)

pub returns-in_err-p : goal.returns-in_err-p
returns-in_err-p c =
    let p = err_from_is_err_and c.from_residual.result c.from_residual.ensures.1 in
    let a = c.args in
    let i = isolate_of a.start a.end a.default a.told a.run.now c.min-n.ensures c.survey-s.ensures c.in_err-p.ensures in
    rw (p.1, p.2) (i.answer, i.records)

pub cut-requires : goal.cut-requires
cut-requires c =
    let a = c.args in
    let i = isolate_of a.start a.end a.default a.told a.run.now c.min-n.ensures c.survey-s.ensures c.in_ok-p.ensures in
    (omega (arith, c.min-n.ensures), i.fits)

pub returns : goal.returns
returns c =
    let a = c.args in
    let i = isolate_of a.start a.end a.default a.told a.run.now c.min-n.ensures c.survey-s.ensures c.in_ok-p.ensures in
    rw (c.cut.ensures, c.min-n.ensures) (i.answer, i.records)
