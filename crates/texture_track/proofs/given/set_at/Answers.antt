-- `set_at`: the texture stays where the given set does not own its index, otherwise it takes the given start and end.
use Rattle.model.specs.Prelude.{ne_eqb}
use Rattle.set_ready.specs.Given.{where_owned, only_owned_lem}
use Rattle.texture_track.specs.Slot.{tracker_named}
use Rattle.texture_track.proofs.given.set_at.Goals as goal

pub set_given_at-requires : goal.set_given_at-requires
set_given_at-requires c =
    let w = where_owned _ c.if-given-i-eq0.false c.requires in
    rw c.extent_of-extent.ensures (record { both_ready = w.0; both_given = w.1 })

pub returns : goal.returns
returns c =
    let theirs = c.if-given-i-eq0.false in
    rw (ne_eqb _ _ theirs)
    (tracker_named (only_owned_lem _ theirs) (rw c.extent_of-extent.ensures at c.set_given_at.ensures))
