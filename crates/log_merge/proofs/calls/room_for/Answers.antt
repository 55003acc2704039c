-- `room_for` turns away for the head, the order and the room, in that order.
use Rattle.std.specs.Prelude.{◌≡◌}
use Rattle.std.proofs.Common.{rules}
use Rattle.model.specs.declared.Refusal.TheVariants.{LogOutOfOrder}
use Rattle.std.proofs.lemmas.Result.{err_from_is_err_and}
use Rattle.log_merge.proofs.Merging.{short_fails, disordered_fails, few_fails, room_is}
use Rattle.log_merge.proofs.calls.room_for.Goals as goal

pub returns-in_err-check_head : goal.returns-in_err-check_head
returns-in_err-check_head c =
    let away = err_from_is_err_and c.from_residual.result c.from_residual.ensures.1 in
    rw (away.1, away.2, c.in_err-check_head.ensures.fits.0) (short_fails _ _ _ _ c.in_err-check_head.ensures.fits.1)

pub returns-in_err-total : goal.returns-in_err-total
returns-in_err-total c =
    let away = err_from_is_err_and c.from_residual-in_err-total.result c.from_residual-in_err-total.ensures.1 in
    let none = c.in_err-total.ensures.ok_part in
    let why : c.in_err-total.field-0.0 ≡ LogOutOfOrder = search rules in
    rw (away.1, away.2, why) (disordered_fails _ _ _ _ c.in_ok-check_head.ensures.fits (rw none at c.need_of.ensures))

pub returns-then-head-total : goal.returns-then-head-total
returns-then-head-total c =
    let needs = rw c.in_ok-total.ensures.ok_part at c.need_of.ensures in
    few_fails _ _ _ _ c.in_ok-check_head.ensures.fits _ needs c.if-head-total.true

pub returns : goal.returns
returns c =
    let needs = rw c.in_ok-total.ensures.ok_part at c.need_of.ensures in
    room_is _ _ _ _ c.in_ok-check_head.ensures.fits _ needs c.if-head-total.false
