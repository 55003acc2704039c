-- `set_use_at`: an unowned texture is inserted in both halves, an owned one is updated.
use Rattle.set_ready.specs.{Checked.{use_ready, update_ready, selecting}, Half.half_held}
use Rattle.set_ready.specs.Owned.{end_flags, end_textured}
use Rattle.texture_track.specs.Slot.{tracker_new, tracker_old}
use Rattle.texture_track.proofs.using.set_use_at.Goals as goal

pub insert_use-requires-then-table-i-eq0 : goal.insert_use-requires-then-table-i-eq0
insert_use-requires-then-table-i-eq0 c =
    let p = c.requires in
    let f = rw c.own.ensures at c.insert_use.ensures.frame in
    use_ready p.taken_use (end_textured p.both_ready f) (end_flags p.both_ready f)

pub returns-then-table-i-eq0 : goal.returns-then-table-i-eq0
returns-then-table-i-eq0 c =
    let p = c.requires in
    tracker_new p.both_ready _ _ _ c.if-table-i-eq0.true (rw c.own.ensures at c.insert_use.ensures)
    c.insert_use-then-table-i-eq0.ensures

pub update_state-requires : goal.update_state-requires
update_state-requires c =
    let p = c.requires in let own = c.if-table-i-eq0.false in
    update_ready p.taken_use (half_held p.both_ready.start own) (half_held p.both_ready.end own)

pub returns-in-None : goal.returns-in-None
returns-in-None c =
    rw c.in-None.is
    (tracker_old c.requires.both_ready _ _ _ c.if-table-i-eq0.false c.update_state.ensures)

pub update_use-requires : goal.update_use-requires
update_use-requires c =
    let p = c.requires in let own = c.if-table-i-eq0.false in
    record {
      update_ready = update_ready p.taken_use (half_held p.both_ready.start own) (half_held p.both_ready.end own);
      selecting = selecting (rw c.in-Some.is at p.taken_use);
    }

pub returns-in-Some : goal.returns-in-Some
returns-in-Some c =
    rw c.in-Some.is
    (tracker_old c.requires.both_ready _ _ _ c.if-table-i-eq0.false c.update_use.ensures)
