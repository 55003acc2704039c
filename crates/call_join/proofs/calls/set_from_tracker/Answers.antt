-- `set_from_tracker`: the test of both sets, and then what both calls share.
use Rattle.set_ready.specs.Tested.{tracker_tested}
use Rattle.set_wellformed.specs.Whole.{tracker_unfit, tracker_fit, first_unfit, second_unfit, both_fit}
use Rattle.texture_track.specs.Tracked.{away_unfit}
use Rattle.call_join.specs.Join.{tracker_given}
use Rattle.call_join.proofs.{Joined.{tracker_room, from_tracker}}
use Rattle.model.specs.Prelude.{ap, not}
use Rattle.call_join.proofs.calls.set_from_tracker.Goals as goal

pub returns-then-not-tracker_fits : goal.returns-then-not-tracker_fits
returns-then-not-tracker_fits c =
    away_unfit (first_unfit _ _ (tracker_unfit c.tracker_fits.ensures (ap not c.if-not-tracker_fits.true)))

pub returns-then-not-tracker_fits-2 : goal.returns-then-not-tracker_fits-2
returns-then-not-tracker_fits-2 c =
    away_unfit (second_unfit _ _ (tracker_fit c.tracker_fits.ensures (ap not c.if-not-tracker_fits.false))
    (tracker_unfit c.tracker_fits-2.ensures (ap not c.if-not-tracker_fits-2.true)))

pub set_from-requires : goal.set_from-requires
set_from-requires c =
    let x = c.args in
    let fit = tracker_fit c.tracker_fits.ensures (ap not c.if-not-tracker_fits.false) in
    let given = tracker_fit c.tracker_fits-2.ensures (ap not c.if-not-tracker_fits-2.false) in record {
      tracker_tested = tracker_tested _ _ _ c.tracker_fits.ensures.long fit;
      given_tested = tracker_given (tracker_tested _ _ _ c.tracker_fits-2.ensures.long given);
      last_len_bound = tracker_room x.table.now
          x.starts.now x.ends.now fit x.given.now x.first.now x.last.now given;
    }

pub returns : goal.returns
returns c =
    let x = c.args in
    let fit = tracker_fit c.tracker_fits.ensures (ap not c.if-not-tracker_fits.false) in
    let given = tracker_fit c.tracker_fits-2.ensures (ap not c.if-not-tracker_fits-2.false) in
    from_tracker (both_fit _ _ fit given) x.given.now x.first.now x.last.now c.set_from.ensures
