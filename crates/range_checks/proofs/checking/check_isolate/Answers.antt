-- `check_isolate` is the run's checks, and then the room's for what `isolate` would leave.
use Rattle.std.proofs.lemmas.Result.{err_from_is_err_and}
use Rattle.model.specs.Prelude.{sym}
use Rattle.model.specs.CheckLaws.{accepted_first, refused_first}
use Rattle.range_checks.specs.Accepted.{run_fits}
use Rattle.range_checks.proofs.checking.check_isolate.Goals as goal

pub returns-in_err-check_run : goal.returns-in_err-check_run
returns-in_err-check_run c =
    let p = err_from_is_err_and c.from_residual.result c.from_residual.ensures.1 in
    λ d. rw (p.1, p.2) (refused_first _ _ c.check_run.ensures c.in_err-check_run.was)

pub isolated_count-requires : goal.isolated_count-requires
isolated_count-requires c = run_fits c.args.s.now c.args.told c.args.start c.args.end (sym c.in_ok-check_run.ensures)

pub returns : goal.returns
returns c =
    λ d. accepted_first _ _ c.check_run.ensures c.in_ok-check_run.was
    (rw (c.isolated_count.ensures d, c.records.ensures) at c.check_room.ensures)
