-- How many entries a call adds to the log, and how many subresources it names; demand 3: "Before each call the logs are emptied and given a
-- free entry for every cell.".
use Rattle.std.specs.Prelude.{◌+◌, ◌*◌, ◌∷◌, if◌then◌else◌}
use Rattle.model.specs.Prelude.{ℕ, zero, suc, Bool, true, false, Option, None, Some, List, [], eqb, length, slice_get}
use Rattle.model.specs.{declared.Extent.Extent, Representation.holds, Sets.{Slot, Set, Tracker, capacity}}
use Rattle.model.specs.Calls.{Indexed, Sets, Call, call_merge_single, call_merge_usage_scope, call_set_single, call_set_from_usage_scope}
use Rattle.model.specs.{Calls.{call_set_from_tracker, call_set_and_remove_sparse}, Texture.{Held, Entry, ranged}}

-- f k + f (k + 1) + .., n of them
abbrev pub sum_from : (ℕ → ℕ) → ℕ → ℕ → ℕ
sum_from f k zero = 0
sum_from f k (suc n) = f k + sum_from f (suc k) n

-- 1 where a test passes
abbrev pub one_if : Bool → ℕ
one_if b = if b then 1 else 0

-- the subresources of an extent that pass a test
abbrev pub count_states : Extent → (ℕ → ℕ → Bool) → ℕ
count_states sh test = sum_from (λ m. sum_from (λ l. one_if (test m l)) 0 sh.layers) 0 sh.mips

-- all subresources of an extent
abbrev pub all_states : Extent → ℕ
all_states sh = sh.mips * sh.layers

-- the entries of a call's log
abbrev pub entries : List (Indexed (List Entry)) → ℕ
entries [] = 0
entries (x ∷ log) = length x.what + entries log

-- the subresources of an owned texture
abbrev pub slot_states : {H : Type 0} → Slot H → ℕ
slot_states s = if s.owned then all_states s.extent else 0

-- and of all textures that a set owns
abbrev pub owned_states : {H : Type 0} → List (Slot H) → ℕ
owned_states [] = 0
owned_states (s ∷ l) = slot_states s + owned_states l

-- an index stands in a list
abbrev pub listed : ℕ → List ℕ → Bool
listed k [] = false
listed k (i ∷ is) = if eqb i k then true else listed k is

-- those of the listed indices, each once; the list of slots begins at index k
abbrev pub listed_states : {H : Type 0} → List ℕ → ℕ → List (Slot H) → ℕ
listed_states is k [] = 0
listed_states is k (s ∷ l) = (if listed k is then slot_states s else 0) + listed_states is (suc k) l

-- of a set that is there
abbrev pub of_scope : (Set Held → ℕ) → Option (Set Held) → ℕ
of_scope f None = 0
of_scope f (Some s) = f s

-- of a tracker that is there: all that it owns
abbrev pub of_tracker : Option (Tracker Held) → ℕ
of_tracker None = 0
of_tracker (Some t) = owned_states t.set.slots

-- the subresources that a tracker call names; the merges write no log
abbrev pub named_states : Call → Sets ranged → ℕ
named_states (call_merge_single n i sh sel st) k = 0
named_states (call_merge_usage_scope n m) k = 0
named_states (call_set_single n i sh sel st) k = count_states sh (holds sel)
named_states (call_set_from_usage_scope n m) k = of_scope (λ s. owned_states s.slots) (slice_get k.scopes m)
named_states (call_set_from_tracker n m) k = of_tracker (slice_get k.trackers m)
named_states (call_set_and_remove_sparse n m is) k = of_scope (λ s. listed_states is 0 s.slots) (slice_get k.scopes m)

-- N × M × W of the tracker that a call writes into: a subresource for each
abbrev pub tracker_capacity : Option (Tracker Held) → ℕ
tracker_capacity None = 0
tracker_capacity (Some t) = capacity t.set.numbers

-- of each call
abbrev pub capacity_of : Call → Sets ranged → ℕ
capacity_of (call_merge_single n i sh sel st) k = 0
capacity_of (call_merge_usage_scope n m) k = 0
capacity_of (call_set_single n i sh sel st) k = tracker_capacity (slice_get k.trackers n)
capacity_of (call_set_from_usage_scope n m) k = tracker_capacity (slice_get k.trackers n)
capacity_of (call_set_from_tracker n m) k = tracker_capacity (slice_get k.trackers n)
capacity_of (call_set_and_remove_sparse n m is) k = tracker_capacity (slice_get k.trackers n)

-- the subresources of the textures that the tracker which a call writes into owns before it: no other has a transition
abbrev pub owned_of : Call → Sets ranged → ℕ
owned_of (call_merge_single n i sh sel st) k = 0
owned_of (call_merge_usage_scope n m) k = 0
owned_of (call_set_single n i sh sel st) k = of_tracker (slice_get k.trackers n)
owned_of (call_set_from_usage_scope n m) k = of_tracker (slice_get k.trackers n)
owned_of (call_set_from_tracker n m) k = of_tracker (slice_get k.trackers n)
owned_of (call_set_and_remove_sparse n m is) k = of_tracker (slice_get k.trackers n)
