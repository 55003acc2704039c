-- `write` judges the list and lays it out where it fits.
use Rattle.std.proofs.Common.{rules, ◌≡◌, Err}
use Rattle.plan_file.specs.Items.{events_are}
use Rattle.plan_file.proofs.WriteAnswers.{judged_no, judged_fine, writes_25, writes_15, writes_done}
use Rattle.plan_file.proofs.writer.write.Goals as goal

pub returns-in_err-total : goal.returns-in_err-total
returns-in_err-total c =
    let e : c.from_residual.result ≡ Err c.in_err-total.field-0.0 = search rules in
    rw e (judged_no _ _ _ _ (events_are c.args.items.now c.as_chunks.ensures.front) c.in_err-total.ensures)

pub too_long-requires : goal.too_long-requires
too_long-requires c = judged_fine _ _ c.in_ok-total.ensures

pub returns-then-too_long : goal.returns-then-too_long
returns-then-too_long c =
    writes_25 _ _ (events_are c.args.items.now c.as_chunks.ensures.front) (judged_fine _ _ c.in_ok-total.ensures) c.too_long.ensures
    c.if-too_long.true

pub returns-then-file-total : goal.returns-then-file-total
returns-then-file-total c =
    writes_15 _ _ (events_are c.args.items.now c.as_chunks.ensures.front) (judged_fine _ _ c.in_ok-total.ensures) c.too_long.ensures
    c.if-too_long.false c.if-file-total.true

pub lay-requires : goal.lay-requires
lay-requires c = judged_fine _ _ c.in_ok-total.ensures

pub returns : goal.returns
returns c =
    writes_done _ _ (events_are c.args.items.now c.as_chunks.ensures.front) (judged_fine _ _ c.in_ok-total.ensures) c.too_long.ensures
    c.if-too_long.false c.if-file-total.false c.lay.ensures
