-- `isolate` is its checks, and then the work.
use Rattle.std.proofs.lemmas.Result.{err_from_is_err_and}
use Rattle.model.specs.Prelude.{sym}
use Rattle.range_checks.specs.Accepted.{isolate_accepted}
use Rattle.range_calls.proofs.RefusedOrDone.{isolate_refused, isolate_done}
use Rattle.range_calls.proofs.isolate.Goals as goal

pub returns-in_err-check_isolate : goal.returns-in_err-check_isolate
returns-in_err-check_isolate c =
    let p = err_from_is_err_and c.from_residual.result c.from_residual.ensures.1 in
    rw (p.1, p.2) (isolate_refused (c.in_err-check_isolate.ensures c.args.default))

pub isolate-i-requires : goal.isolate-i-requires
isolate-i-requires c =
    isolate_accepted _ _ _ _ _ (sym (c.in_ok-check_isolate.ensures c.args.default))

pub returns : goal.returns
returns c = isolate_done (c.in_ok-check_isolate.ensures c.args.default) c.isolate-i.ensures
