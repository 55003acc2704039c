-- `merge_given_at`: an unowned texture is owned and inserted, an owned one merged.
use Rattle.model.specs.Prelude.{refl}
use Rattle.set_storage.specs.{declared.stored.Stored.Stored, Storage.start_half}
use Rattle.set_ready.specs.{Half.half_held, Given.{set_ready, merge_ready}}
use Rattle.call_merge.specs.Slot.{scope_new, scope_old}
use Rattle.call_merge.proofs.slot.merge_given_at.Goals as goal

pub returns-then-table-i-eq0 : goal.returns-then-table-i-eq0
returns-then-table-i-eq0 c =
    let p = c.requires in
    scope_new p.half_ready _ _ c.if-table-i-eq0.true (rw c.own.ensures at c.insert_given.ensures)

pub merge_given-requires : goal.merge_given-requires
merge_given-requires c =
    let a = c.args in let p = c.requires in
    let x : Stored = record { table = a.given; ranges = a.lent; half = start_half; i = a.i } in
    let h = half_held p.half_ready c.if-table-i-eq0.false in
    record { set_ready = set_ready x p.half_given p.p_value h.ready refl; merge_ready = merge_ready x p.half_given p.p_value h }

pub returns : goal.returns
returns c =
    scope_old c.requires.half_ready _ _ c.if-table-i-eq0.false c.merge_given.ensures
