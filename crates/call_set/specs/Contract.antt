-- THE CONTRACT of `set_single_lem`.
use Rattle.model.specs.Prelude.{ℕ, List}
use Rattle.model.specs.declared.{Extent.Extent, LogHead.LogHead, Selector.Selector, TrackerIndex.TrackerIndex}
use Rattle.model.specs.{Calls.set_single, Log.Answered, Texture.ranged}
use Rattle.set_storage.specs.{Lent.{LentTracker, tracker_in, tracker_test}, Stays.Only}
use Rattle.texture_track.specs.Tracked.{TrackerCall}

-- of what is lent, and a primed name for what it leaves
abbrev pub SetSingle : LentTracker → TrackerIndex → Extent → Selector → ℕ → LogHead → List ℕ → Answered → LentTracker → List ℕ → Type 0
SetSingle t i sh sel st = TrackerCall (Only i.0) (tracker_test t) (set_single ranged (tracker_in t) i.0 sh sel st) t
