-- `tracker_fits` tests the head and the room of both halves, which makes storage safe to index, and then every index.
use Rattle.std.proofs.Common.{rules}
use Rattle.model.specs.Prelude.{refl, sym, ◌∙◌}
use Rattle.set_wellformed.proofs.{Numbers.{numbers_in_lem, head_numbers, head_measured}, Holding.tracker_is}
use Rattle.set_wellformed.proofs.unknowns.tracker_fits.Goals as goal
use Rattle.set_wellformed.proofs.unknowns.tracker_fits.Goals.{then-not-head_fits-via-then-not-head_fits}
use Rattle.set_wellformed.proofs.unknowns.tracker_fits.Goals.{then-not-head_fits-via-else-not-head_fits+then-not-room_fits}

pub room_fits-requires : goal.room_fits-requires
room_fits-requires c =
    let k = numbers_in_lem _ _ _ (head_numbers _ _ (sym c.head_fits.ensures ∙ c.if-not-head_fits.false)) in
    (k.textures.high, (k.mips.high, k.layers.high))

pub returns-then-not-head_fits : goal.returns-then-not-head_fits
returns-then-not-head_fits c =
    let a = c.args in
    elim c.then-not-head_fits.branch [
      | then-not-head_fits-via-then-not-head_fits w ↦ record {
        is = rw (tracker_is a.table.now a.starts.now a.ends.now, sym c.head_fits.ensures ∙ w.if-not-head_fits.true) refl;
        long = search rules;
      }
      | then-not-head_fits-via-else-not-head_fits+then-not-room_fits w ↦ record {
        is = rw (
          tracker_is a.table.now a.starts.now a.ends.now,
          sym c.head_fits.ensures ∙ w.if-not-head_fits.false,
          sym w.room_fits.ensures ∙ w.if-not-room_fits.true,
        ) refl;
        long = search rules;
      }
    ]

pub new-start-requires : goal.new-start-requires
new-start-requires c = head_measured _ _ (search rules) (sym c.head_fits.ensures ∙ c.if-not-head_fits.false)

pub returns : goal.returns
returns c =
    let a = c.args in let s = c.new-start.ensures in let e = c.new-end.ensures in
    record {
      is = rw (
        tracker_is a.table.now a.starts.now a.ends.now,
        sym c.head_fits.ensures ∙ c.if-not-head_fits.false,
        sym c.room_fits.ensures ∙ c.if-not-room_fits.false,
      ) (rw (s.table, s.ranges, e.ranges) at c.all_fit.ensures);
      long = search rules;
    }
