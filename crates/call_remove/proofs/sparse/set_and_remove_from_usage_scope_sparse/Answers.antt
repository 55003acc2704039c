-- `set_and_remove_from_usage_scope_sparse`: each check turns the call away with everything lent as it was, and what passes them all is
-- `remove_checked`.
use Rattle.model.specs.{Errors.passed_on, Prelude.{ap, not}}
use Rattle.set_ready.specs.Tested.{tracker_tested, scope_tested}
use Rattle.set_wellformed.specs.Whole.{scope_unfit, scope_fit, tracker_unfit, tracker_fit, first_unfit, second_unfit, both_fit}
use Rattle.call_remove.specs.Removed.{away_unfit, away_short}
use Rattle.call_remove.proofs.Removal.{removes, few_entries, tracker_part, scope_part, call_done, call_away}
use Rattle.call_remove.proofs.sparse.set_and_remove_from_usage_scope_sparse.Goals as goal

pub returns-then-not-tracker_fits : goal.returns-then-not-tracker_fits
returns-then-not-tracker_fits c =
    away_unfit (first_unfit _ _ (tracker_unfit c.tracker_fits.ensures (ap not c.if-not-tracker_fits.true)))

pub returns-then-not-scope_fits : goal.returns-then-not-scope_fits
returns-then-not-scope_fits c =
    away_unfit (second_unfit _ _ (tracker_fit c.tracker_fits.ensures (ap not c.if-not-tracker_fits.false))
    (scope_unfit c.scope_fits.ensures (ap not c.if-not-scope_fits.true)))

pub returns-in_err-check_head : goal.returns-in_err-check_head
returns-in_err-check_head c =
    let fit = tracker_fit c.tracker_fits.ensures (ap not c.if-not-tracker_fits.false) in
    let given = scope_fit c.scope_fits.ensures (ap not c.if-not-scope_fits.false) in
    let short = c.in_err-check_head.ensures.fits in
    rw (passed_on c.from_residual.ensures.1, short.0) (away_short (both_fit _ _ fit given) short.1)

pub check_sparse-requires : goal.check_sparse-requires
check_sparse-requires c =
    let fit = tracker_fit c.tracker_fits.ensures (ap not c.if-not-tracker_fits.false) in
    let given = scope_fit c.scope_fits.ensures (ap not c.if-not-scope_fits.false) in
    let t = tracker_tested _ _ _ c.tracker_fits.ensures.long fit in
    let g = scope_tested _ _ c.scope_fits.ensures.long given in
    (t.starts.textures, g.measured.textures)

pub remove_checked-requires : goal.remove_checked-requires
remove_checked-requires c =
    let z = c.in_ok-check_sparse.ensures in
    let fit = tracker_fit c.tracker_fits.ensures (ap not c.if-not-tracker_fits.false) in
    let given = scope_fit c.scope_fits.ensures (ap not c.if-not-scope_fits.false) in
    let t = tracker_tested _ _ _ c.tracker_fits.ensures.long fit in
    let g = scope_tested _ _ c.scope_fits.ensures.long given in
    let k = c.in_ok-check_head.ensures.fits in
    let a = tracker_part _ _ _ fit in let b = scope_part _ _ given in
    record {
      listing = removes t g z;
      indices_len_bound = few_entries t g z a b;
      head_value = k;
    }

pub returns : goal.returns
returns c =
    let z = c.in_ok-check_sparse.ensures in
    let fit = tracker_fit c.tracker_fits.ensures (ap not c.if-not-tracker_fits.false) in
    let given = scope_fit c.scope_fits.ensures (ap not c.if-not-scope_fits.false) in
    let t = tracker_tested _ _ _ c.tracker_fits.ensures.long fit in
    let g = scope_tested _ _ c.scope_fits.ensures.long given in
    let k = c.in_ok-check_head.ensures.fits in
    call_done t g z (both_fit _ _ fit given) k c.remove_checked.ensures

pub returns-in_err-check_sparse : goal.returns-in_err-check_sparse
returns-in_err-check_sparse c =
    let fit = tracker_fit c.tracker_fits.ensures (ap not c.if-not-tracker_fits.false) in
    let given = scope_fit c.scope_fits.ensures (ap not c.if-not-scope_fits.false) in
    let k = c.in_ok-check_head.ensures.fits in
    rw (passed_on c.from_residual-in_err-check_sparse.ensures.1) (call_away (both_fit _ _ fit given) k c.in_err-check_sparse.ensures)
