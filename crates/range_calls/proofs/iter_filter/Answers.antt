-- `iter_filter` is its checks, and then the work.
use Rattle.std.proofs.lemmas.Result.{err_from_is_err_and}
use Rattle.model.specs.Prelude.{sym}
use Rattle.range_checks.specs.Accepted.{filter_accepted}
use Rattle.range_calls.proofs.RefusedOrDone.{filter_refused, filter_done}
use Rattle.range_calls.proofs.iter_filter.Goals as goal

pub returns-in_err-check_filter : goal.returns-in_err-check_filter
returns-in_err-check_filter c =
    let p = err_from_is_err_and c.from_residual.result c.from_residual.ensures.1 in
    rw (p.1, p.2) (filter_refused c.in_err-check_filter.ensures)

pub iter_filter-n-requires : goal.iter_filter-n-requires
iter_filter-n-requires c =
    let h = filter_accepted _ _ _ _ _ (sym c.in_ok-check_filter.ensures) in record { len_in_bounds = h.fits; s_in_bounds = h.room }

pub returns : goal.returns
returns c = filter_done c.in_ok-check_filter.ensures c.iter_filter-n.ensures
