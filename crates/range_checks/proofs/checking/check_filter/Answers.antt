-- `check_filter` is the run's checks, and then the room's for what overlaps.
use Rattle.std.proofs.lemmas.Result.{err_from_is_err_and}
use Rattle.model.specs.Prelude.{sym}
use Rattle.model.specs.CheckLaws.{accepted_first, refused_first}
use Rattle.range_checks.specs.Accepted.{run_fits}
use Rattle.range_checks.proofs.checking.check_filter.Goals as goal

pub returns-in_err-check_run : goal.returns-in_err-check_run
returns-in_err-check_run c =
    let p = err_from_is_err_and c.from_residual.result c.from_residual.ensures.1 in
    rw (p.1, p.2) (refused_first _ _ c.check_run.ensures c.in_err-check_run.was)

pub filtered_count-requires : goal.filtered_count-requires
filtered_count-requires c = run_fits c.args.s.now c.args.told c.args.start c.args.end (sym c.in_ok-check_run.ensures)

pub returns : goal.returns
returns c =
    accepted_first _ _ c.check_run.ensures c.in_ok-check_run.was
    (rw (c.filtered_count.ensures.is, c.records.ensures) at c.check_room.ensures)
