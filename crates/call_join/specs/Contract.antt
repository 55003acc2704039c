-- THE CONTRACTS of the calls over a whole set, of what is lent, and a primed name for what they leave. The given set g is only read.
use Rattle.std.specs.Prelude.{◌&&◌}
use Rattle.model.specs.Prelude.{ℕ, List}
use Rattle.model.specs.{declared.LogHead.LogHead, Log.Answered, Calls.{set_from_usage_scope, set_from_tracker}, Texture.ranged}
use Rattle.set_storage.specs.{Lent.{LentScope, LentTracker, scope_in, tracker_in, scope_test, tracker_test}, Stays.OwnedBy}
use Rattle.texture_track.specs.Tracked.{TrackerCall}

-- `set_from_usage_scope`
abbrev pub SetFromUsageScope : LentTracker → LentScope → LogHead → List ℕ → Answered → LentTracker → List ℕ → Type 0
SetFromUsageScope t g =
    TrackerCall (OwnedBy g.table) (tracker_test t && scope_test g) (set_from_usage_scope ranged (tracker_in t) (scope_in g)) t

-- `set_from_tracker`
abbrev pub SetFromTracker : LentTracker → LentTracker → LogHead → List ℕ → Answered → LentTracker → List ℕ → Type 0
SetFromTracker t g =
    TrackerCall (OwnedBy g.table) (tracker_test t && tracker_test g) (set_from_tracker ranged (tracker_in t) (tracker_in g)) t
