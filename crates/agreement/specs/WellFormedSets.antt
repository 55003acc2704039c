-- Well-formed sets of the ranged model, by model's tests of a scope and of a tracker (01: sound), and calls whose given state has sixteen
-- bits.
use Rattle.model.specs.Prelude.{ℕ, Bool}
use Rattle.model.specs.Base.{every}
use Rattle.model.specs.Calls.{Sets, Call, call_merge_single, call_merge_usage_scope, call_set_single, call_set_from_usage_scope}
use Rattle.model.specs.{Calls.{call_set_from_tracker, call_set_and_remove_sparse}, Texture.ranged, WellFormed.{scope_fits, tracker_fits}}
use Rattle.std.specs.Prelude.{◌<◌, ◌&&◌}

-- every scope and every tracker is well formed
abbrev pub well_formed : Sets ranged → Bool
well_formed k = every scope_fits k.scopes && every tracker_fits k.trackers

-- "A state is 16 bits."
abbrev pub Word : ℕ → Type 0
Word st = st < 65536

-- the state that a call is given, if it is given one
abbrev pub GivenWord : Call → Type 0
GivenWord (call_merge_single n i sh sel st) = Word st
GivenWord (call_merge_usage_scope n m) = Unit {0}
GivenWord (call_set_single n i sh sel st) = Word st
GivenWord (call_set_from_usage_scope n m) = Unit {0}
GivenWord (call_set_from_tracker n m) = Unit {0}
GivenWord (call_set_and_remove_sparse n m is) = Unit {0}
