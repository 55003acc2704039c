-- `set_single_lem`: the test, the log's head, the checks, and then the use.
use Rattle.model.specs.Prelude.{ap, not}
use Rattle.model.specs.Errors.{passed_on}
use Rattle.set_wellformed.specs.Whole.{tracker_unfit, tracker_fit}
use Rattle.set_ready.specs.Tested.{tracker_tested}
use Rattle.texture_track.specs.Tracked.{away_unfit, away_short}
use Rattle.call_set.proofs.Uses.{single_away, single_done, single_few, single_ready, single_use, as_use_lem}
use Rattle.call_set.proofs.single.set_single.Goals as goal

pub returns-then-not-tracker_fits : goal.returns-then-not-tracker_fits
returns-then-not-tracker_fits c =
    away_unfit (tracker_unfit c.tracker_fits.ensures (ap not c.if-not-tracker_fits.true))

pub returns-in_err-check_head : goal.returns-in_err-check_head
returns-in_err-check_head c =
    let short = c.in_err-check_head.ensures.fits in
    rw (passed_on c.from_residual.ensures.1, short.0)
    (away_short (tracker_fit c.tracker_fits.ensures (ap not c.if-not-tracker_fits.false)) short.1)

pub check_single-requires : goal.check_single-requires
check_single-requires c =
    (tracker_tested _ _ _ c.tracker_fits.ensures.long (tracker_fit c.tracker_fits.ensures
    (ap not c.if-not-tracker_fits.false))).starts.textures

pub set_checked-requires : goal.set_checked-requires
set_checked-requires c =
    let a = c.args in
    let z = rw c.state_of-new.ensures.0 at c.in_ok-check_single.ensures in
    let fit = tracker_fit c.tracker_fits.ensures (ap not c.if-not-tracker_fits.false) in
    rw (c.wide-i.ensures.0, c.state_of-new.ensures.0) (record {
      both_ready = single_ready z (tracker_tested _ _ _ c.tracker_fits.ensures.long fit);
      taken_use = single_use z c.part_named-part.ensures;
      len_bound = single_few a.table.now a.starts.now a.ends.now _ _ fit c.state_of-new.ensures.1 z _
          (as_use_lem c.args.extent c.args.selector _ c.part_named-part.ensures);
      head_value = c.in_ok-check_head.ensures.fits;
    })

pub returns : goal.returns
returns c =
    let z = rw c.state_of-new.ensures.0 at c.in_ok-check_single.ensures in
    let k = c.in_ok-check_head.ensures.fits in
    single_done (tracker_fit c.tracker_fits.ensures (ap not c.if-not-tracker_fits.false)) k _ z
    (as_use_lem c.args.extent c.args.selector _ c.part_named-part.ensures)
    (rw (c.wide-i.ensures.0, c.state_of-new.ensures.0) at
    c.set_checked.ensures)

pub returns-in_err-check_single : goal.returns-in_err-check_single
returns-in_err-check_single c =
    let z = rw c.state_of-new.ensures.0 at c.in_err-check_single.ensures in
    let k = c.in_ok-check_head.ensures.fits in
    rw (passed_on c.from_residual-in_err-check_single.ensures.1)
    (single_away (tracker_fit c.tracker_fits.ensures (ap not c.if-not-tracker_fits.false)) k z)
