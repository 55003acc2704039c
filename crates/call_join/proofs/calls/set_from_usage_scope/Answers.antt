-- `set_from_usage_scope`: the test of both sets, and then what both calls share.
use Rattle.set_ready.specs.Tested.{tracker_tested, scope_tested}
use Rattle.set_wellformed.specs.Whole.{scope_unfit, scope_fit, tracker_unfit, tracker_fit, first_unfit, second_unfit, both_fit}
use Rattle.texture_track.specs.Tracked.{away_unfit}
use Rattle.call_join.specs.Join.{scope_given}
use Rattle.call_join.proofs.{Joined.{scope_room, from_scope}}
use Rattle.model.specs.Prelude.{ap, not}
use Rattle.call_join.proofs.calls.set_from_usage_scope.Goals as goal

pub returns-then-not-tracker_fits : goal.returns-then-not-tracker_fits
returns-then-not-tracker_fits c =
    away_unfit (first_unfit _ _ (tracker_unfit c.tracker_fits.ensures (ap not c.if-not-tracker_fits.true)))

pub returns-then-not-scope_fits : goal.returns-then-not-scope_fits
returns-then-not-scope_fits c =
    away_unfit (second_unfit _ _ (tracker_fit c.tracker_fits.ensures (ap not c.if-not-tracker_fits.false))
    (scope_unfit c.scope_fits.ensures (ap not c.if-not-scope_fits.true)))

pub set_from-requires : goal.set_from-requires
set_from-requires c =
    let x = c.args in
    let fit = tracker_fit c.tracker_fits.ensures (ap not c.if-not-tracker_fits.false) in
    let given = scope_fit c.scope_fits.ensures (ap not c.if-not-scope_fits.false) in record {
      tracker_tested = tracker_tested _ _ _ c.tracker_fits.ensures.long fit;
      given_tested = scope_given (scope_tested _ _ c.scope_fits.ensures.long given);
      last_len_bound = scope_room x.table.now x.starts.now
          x.ends.now fit x.given.now x.lent.now given;
    }

pub returns : goal.returns
returns c =
    let x = c.args in
    let fit = tracker_fit c.tracker_fits.ensures (ap not c.if-not-tracker_fits.false) in
    let given = scope_fit c.scope_fits.ensures (ap not c.if-not-scope_fits.false) in
    from_scope (both_fit _ _ fit given) x.given.now x.lent.now c.set_from.ensures
