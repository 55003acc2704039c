-- One use of texture i of a tracker: what it adds to the log, and the tracker that it leaves.
use Rattle.model.specs.Prelude.{ℕ, List, get_or, set}
use Rattle.model.specs.{declared.{Extent.Extent, PendingTransition.PendingTransition}, Sets.{Tracker, with_tracker}, Calls.set_slot}
use Rattle.model.specs.Texture.{Held, Given, ranged}
use Rattle.set_storage.specs.Storage.{flags_of, tracker_of, mask_at, tracker_slot}
use Rattle.texture_barrier.specs.Entries.{entries_at}
use Rattle.texture_track.specs.GivenSlot.{end_entries}

-- what the use adds to the log
abbrev pub used_entries : List ℕ → List ℕ → ℕ → Extent → Given → List PendingTransition
used_entries t e i sh g = entries_at i (end_entries (flags_of t) (get_or t mask_at 0) sh g t e i)

-- the tracker that it leaves
abbrev pub used_tracker : List ℕ → List ℕ → List ℕ → ℕ → Extent → Given → Tracker Held
used_tracker t s e i sh g =
    with_tracker (tracker_of t s e) (set (tracker_of t s e).set.slots i (set_slot ranged (flags_of t) sh g g (tracker_slot t s e i)))
