-- `coalesce` is its check, and then the work.
use Rattle.std.proofs.lemmas.Result.{err_from_is_err_and}
use Rattle.model.specs.Prelude.{sym}
use Rattle.range_checks.specs.Accepted.{coalesce_accepted}
use Rattle.range_calls.proofs.RefusedOrDone.{coalesce_refused, coalesce_done}
use Rattle.range_calls.proofs.coalesce.Goals as goal

pub returns-in_err-check_coalesce : goal.returns-in_err-check_coalesce
returns-in_err-check_coalesce c =
    let p = err_from_is_err_and c.from_residual.result c.from_residual.ensures.1 in
    rw (p.1, p.2) (coalesce_refused c.in_err-check_coalesce.ensures)

pub coalesce-len-requires : goal.coalesce-len-requires
coalesce-len-requires c =
    coalesce_accepted _ _ (sym c.in_ok-check_coalesce.ensures)

pub returns : goal.returns
returns c = coalesce_done c.in_ok-check_coalesce.ensures c.coalesce-len.ensures
