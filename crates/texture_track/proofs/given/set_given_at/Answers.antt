-- `set_given_at`: an unowned texture is owned and takes the given start and end, an owned one is updated by the given end.
use Rattle.set_ready.specs.{Half.half_held, Given.{set_ready, given_update}}
use Rattle.set_ready.specs.Owned.{end_flags, end_textured}
use Rattle.texture_track.specs.{Slot.{tracker_new, tracker_old}, GivenSlot.{end_of}}
use Rattle.texture_track.proofs.given.set_given_at.Goals as goal

pub insert_given-requires-then-table-i-eq0 : goal.insert_given-requires-then-table-i-eq0
insert_given-requires-then-table-i-eq0 c =
    let p = c.requires in
    let f = rw (c.own.ensures, c.start.ensures) at c.insert_given.ensures.frame in
    rw c.end.ensures (set_ready (end_of c.args.given c.args.i) p.both_given.end p.both_given.flags
    (end_textured p.both_ready f) (end_flags p.both_ready f))

pub returns-then-table-i-eq0 : goal.returns-then-table-i-eq0
returns-then-table-i-eq0 c =
    let p = c.requires in
    tracker_new p.both_ready _ _ _ c.if-table-i-eq0.true
    (rw (c.own.ensures, c.start.ensures) at c.insert_given.ensures)
    (rw c.end.ensures at c.insert_given-then-table-i-eq0.ensures)

pub update_given-requires : goal.update_given-requires
update_given-requires c =
    let p = c.requires in let own = c.if-table-i-eq0.false in
    rw c.end-2.ensures
    (given_update (end_of c.args.given c.args.i) p.both_given.end p.both_given.flags (half_held p.both_ready.start own)
    (half_held p.both_ready.end own))

pub returns : goal.returns
returns c =
    tracker_old c.requires.both_ready _ _ _ c.if-table-i-eq0.false (rw c.end-2.ensures at c.update_given.ensures)
