-- `merge_single`: the test, the checks, then the merge of one texture.
use Rattle.model.specs.Prelude.{ap, not}
use Rattle.model.specs.Errors.{passed_on}
use Rattle.set_ready.specs.{Tested.scope_tested, Parts.part_use}
use Rattle.set_wellformed.specs.Whole.{scope_unfit, scope_fit}
use Rattle.call_merge.proofs.OneUse.{not_fitting, single_away, single_done, single_ready, single_use}
use Rattle.call_merge.proofs.single.merge_single.Goals as goal

pub returns-then-not-scope_fits : goal.returns-then-not-scope_fits
returns-then-not-scope_fits c = not_fitting (scope_unfit c.scope_fits.ensures (ap not c.if-not-scope_fits.true))

pub check_single-requires : goal.check_single-requires
check_single-requires c =
    (scope_tested _ _ c.scope_fits.ensures.long
    (scope_fit c.scope_fits.ensures (ap not c.if-not-scope_fits.false))).measured.textures

pub merge_use_at-requires : goal.merge_use_at-requires
merge_use_at-requires c =
    let z = c.in_ok-check_single.ensures in
    let k = scope_tested _ _ c.scope_fits.ensures.long
    (scope_fit c.scope_fits.ensures (ap not c.if-not-scope_fits.false)) in
    rw c.wide.ensures.0 (record { half_ready = single_ready z k; taken_use = single_use z c.part_named-part.ensures c.flags_of-p.ensures })

pub returns : goal.returns
returns c =
    let fit = scope_fit c.scope_fits.ensures (ap not c.if-not-scope_fits.false) in
    let m = (rw (c.wide.ensures.0, c.flags_of-p.ensures, c.part_named-part.ensures, ← part_use _ _ _) at c.merge_use_at.ensures) in
    rw c.told.ensures (single_done fit (scope_tested _ _ c.scope_fits.ensures.long fit) c.in_ok-check_single.ensures m)

pub returns-in_err-check_single : goal.returns-in_err-check_single
returns-in_err-check_single c =
    rw (passed_on c.from_residual.ensures.1)
    (single_away (scope_fit c.scope_fits.ensures (ap not c.if-not-scope_fits.false)) c.in_err-check_single.ensures)
