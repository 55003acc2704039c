-- `empty_log`: the head's check, and the model's emptied head.
use Rattle.std.proofs.lemmas.Result.{err_from_is_err_and}
use Rattle.log_head.specs.Log.{empty_away, empty_done}
use Rattle.log_head.proofs.empty_log.Goals as goal

pub returns-in_err-check_head : goal.returns-in_err-check_head
returns-in_err-check_head c =
    let away = err_from_is_err_and c.from_residual.result c.from_residual.ensures.1 in
    rw (away.1, away.2, c.in_err-check_head.ensures.fits.0) (empty_away _ _ c.in_err-check_head.ensures.fits.1)

pub returns : goal.returns
returns c = empty_done _ _ c.in_ok-check_head.ensures.fits
