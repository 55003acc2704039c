-- `merge_usage_scope`: the test of both scopes, the checks, then the walk over the textures.
use Rattle.set_ready.specs.Tested.{scope_tested}
use Rattle.set_wellformed.specs.Whole.{scope_unfit, scope_fit, first_unfit, second_unfit, both_fit}
use Rattle.call_merge.proofs.{OneUse.not_fitting, Scopes.{scope_away, scope_done, scope_ready}}
use Rattle.model.specs.{Errors.passed_on, Prelude.{ap, not}}
use Rattle.call_merge.proofs.scope.merge_usage_scope.Goals as goal

pub returns-then-not-scope_fits : goal.returns-then-not-scope_fits
returns-then-not-scope_fits c = not_fitting (first_unfit _ _ (scope_unfit c.scope_fits.ensures (ap not c.if-not-scope_fits.true)))

pub returns-then-not-scope_fits-2 : goal.returns-then-not-scope_fits-2
returns-then-not-scope_fits-2 c =
    not_fitting (second_unfit _ _ (scope_fit c.scope_fits.ensures (ap not c.if-not-scope_fits.false))
    (scope_unfit c.scope_fits-2.ensures (ap not c.if-not-scope_fits-2.true)))

pub check_set-requires : goal.check_set-requires
check_set-requires c =
    let k = scope_tested _ _ c.scope_fits.ensures.long
    (scope_fit c.scope_fits.ensures (ap not c.if-not-scope_fits.false)) in
    let g = scope_tested _ _ c.scope_fits-2.ensures.long
    (scope_fit c.scope_fits-2.ensures (ap not c.if-not-scope_fits-2.false)) in
    (k.measured.textures, g.measured.textures)

pub merge_slots-requires : goal.merge_slots-requires
merge_slots-requires c =
    let k = scope_tested _ _ c.scope_fits.ensures.long
    (scope_fit c.scope_fits.ensures (ap not c.if-not-scope_fits.false)) in
    let g = scope_tested _ _ c.scope_fits-2.ensures.long
    (scope_fit c.scope_fits-2.ensures (ap not c.if-not-scope_fits-2.false)) in
    scope_ready k g c.in_ok-check_set.ensures
    c.flags_of-p.ensures

pub returns : goal.returns
returns c =
    let fit = both_fit _ _ (scope_fit c.scope_fits.ensures (ap not c.if-not-scope_fits.false))
    (scope_fit c.scope_fits-2.ensures (ap not c.if-not-scope_fits-2.false)) in
    scope_done _ fit c.in_ok-check_set.ensures
    (rw c.flags_of-p.ensures at c.merge_slots.ensures)

pub returns-in_err-check_set : goal.returns-in_err-check_set
returns-in_err-check_set c =
    let fit = both_fit _ _ (scope_fit c.scope_fits.ensures (ap not c.if-not-scope_fits.false))
    (scope_fit c.scope_fits-2.ensures (ap not c.if-not-scope_fits-2.false)) in
    rw (passed_on c.from_residual.ensures.1) (scope_away _ fit c.in_err-check_set.ensures)
