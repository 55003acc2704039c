-- `merge_use_at`: an unowned texture is owned and inserted, an owned one merged.
use Rattle.model.specs.Prelude.{refl}
use Rattle.set_ready.specs.{Checked.{use_ready, held_ready}, Half.half_held}
use Rattle.call_merge.specs.Slot.{scope_new, scope_old}
use Rattle.call_merge.proofs.slot.merge_use_at.Goals as goal

pub returns-then-table-i-eq0 : goal.returns-then-table-i-eq0
returns-then-table-i-eq0 c =
    let p = c.requires in
    scope_new p.half_ready _ _ c.if-table-i-eq0.true (rw c.own.ensures at c.insert_use.ensures)

pub merge_use-requires : goal.merge_use-requires
merge_use-requires c =
    let p = c.requires in
    let x = half_held p.half_ready c.if-table-i-eq0.false in
    record { use_ready = use_ready p.taken_use x.ready refl; held_ready = held_ready p.taken_use x }

pub returns : goal.returns
returns c = scope_old c.requires.half_ready _ _ c.if-table-i-eq0.false c.merge_use.ensures
