-- 01, "Opening numbers": when a set is *sound*, here well formed.
use Rattle.std.specs.Prelude.{◌&&◌, ◌∷◌, if◌then◌else◌}
use Rattle.model.specs.Prelude.{ℕ, Bool, true, false, not, List, [], leb, ltb, eqb, length}
use Rattle.model.specs.{declared.{UsageFlags.UsageFlags, Extent.Extent, Range.Range}, Base.{every}}
use Rattle.model.specs.{Flags.{meets, incompatible, flags_fit}, Representation.Ends}
use Rattle.model.specs.{Sets.{Numbers, Slot, Set, Tracker, numbers_fit, capacity}, Refusals.extent_outside}
use Rattle.model.specs.{Texture.{Held, single, many}, Subresources.subresources}

-- "states nonzero, compatible, without COMPLEX (UNKNOWN may stand alone or beside other bits)", of 16 bits
abbrev pub state_fits : UsageFlags → ℕ → Bool
state_fits p s = not (eqb s 0) && ltb s 65536 && not (incompatible p s) && not (meets s p.complex)

-- "held whole, in a compatible nonzero state without UNKNOWN or COMPLEX"
abbrev pub single_fits : UsageFlags → ℕ → Bool
single_fits p s = state_fits p s && not (meets s p.unknown)

-- "tiles layer 0 to the last with nonempty ascending ranges": from a to e
abbrev pub ranges_fit : UsageFlags → ℕ → ℕ → List Range → Bool
ranges_fit p e a [] = eqb a e
ranges_fit p e a (r ∷ s) = eqb r.start a && ltb a r.end && state_fits p r.state && ranges_fit p e r.end s

-- "or as one strip a mip"
abbrev pub held_fits : UsageFlags → Extent → Held → Bool
held_fits p sh (single s) = single_fits p s
held_fits p sh (many ss) = eqb (length ss) sh.mips && every (ranges_fit p sh.layers 0) ss

-- two tests give the same
abbrev pub same_test : Bool → Bool → Bool
same_test true b = b
same_test false b = not b

-- two lists are as long, and each pair passes a test
abbrev pub all₂ : {A : Type 0} → (A → A → Bool) → List A → List A → Bool
all₂ f [] [] = true
all₂ f [] (b ∷ t) = false
all₂ f (a ∷ s) [] = false
all₂ f (a ∷ s) (b ∷ t) = f a b && all₂ f s t

-- "start and end agree on which cells are exactly UNKNOWN"
abbrev pub same_unknown : ℕ → List (List ℕ) → List (List ℕ) → Bool
same_unknown u = all₂ (all₂ (λ a b. same_test (eqb a u) (eqb b u)))

-- start and end of a tracker's texture are each held so, and agree
abbrev pub ends_fit : UsageFlags → Extent → Ends Held → Bool
ends_fit p sh e =
    held_fits p sh e.start && held_fits p sh e.end && same_unknown p.unknown (subresources sh e.start) (subresources sh e.end)

-- "each owned index has a shape within M and W and is held .."
abbrev pub slot_fits : {H : Type 0} → (UsageFlags → Extent → H → Bool) → Numbers → UsageFlags → Slot H → Bool
slot_fits fits n p x = if x.owned then not (extent_outside n x.extent) && fits p x.extent x.held else true

-- "its N, M, W, room and palette meet the opening checks": the room is told beside the set
abbrev pub set_fits : {H : Type 0} → (UsageFlags → Extent → H → Bool) → Set H → Bool
set_fits fits s =
    numbers_fit s.numbers && flags_fit s.flags && eqb (length s.slots) s.numbers.textures
    && every (slot_fits fits s.numbers s.flags) s.slots

-- a well-formed scope, but for its room
unfoldable pub scope_fits : Set Held → Bool
unfolding flags_fit incompatible
scope_fits s = set_fits held_fits s

-- a well-formed tracker, but for its room
unfoldable pub tracker_fits : Tracker Held → Bool
unfolding flags_fit incompatible subresources
tracker_fits t = set_fits ends_fit t.set

-- a well-formed scope, its room told in ranges: "lent room for N × M × W ranges"
abbrev pub well_formed_scope : ℕ → Set Held → Bool
well_formed_scope room s = scope_fits s && leb (capacity s.numbers) room

-- a tracker has room for the start's ranges and for the end's
abbrev pub well_formed_tracker : ℕ → ℕ → Tracker Held → Bool
well_formed_tracker start_room end_room t = tracker_fits t && leb (capacity t.set.numbers) start_room
    && leb (capacity t.set.numbers) end_room
