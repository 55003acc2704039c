-- Where start and end of a tracker's texture are exactly UNKNOWN, as the code tests it, and what it may take as tested before.
use Rattle.model.specs.Prelude.{ℕ, Bool, true, not, List, leb, eqb, length}
use Rattle.model.specs.{declared.{Range.Range, UsageFlags.UsageFlags}, Base.every, RangedStates.{layer_states, Tiles}}
use Rattle.model.specs.{Subresources.subresources, WellFormed.{held_fits, same_test, all₂, same_unknown, ends_fit, slot_fits}}
use Rattle.std.specs.Prelude.{◌*◌, ◌≤◌, ◌≡◌, if◌then◌else◌}
use Rattle.range_states.specs.View.{decode}
use Rattle.set_storage.specs.Storage.{tracker_slot, numbers_of, flags_of, extent_of, start_half, end_half, mip_of, held_of}
use Rattle.set_storage.specs.{Storage.{list_from}}

-- two states are both exactly UNKNOWN, or neither is
abbrev pub agrees : ℕ → ℕ → ℕ → Bool
agrees u a b = same_test (eqb a u) (eqb b u)

-- so at every layer of two lists of ranges
abbrev pub layers_agree : ℕ → List Range → List Range → Bool
layers_agree u xs ys = all₂ (agrees u) (layer_states xs) (layer_states ys)

-- a range that is not exactly UNKNOWN
abbrev pub is_known : ℕ → Range → Bool
is_known u r = not (eqb r.state u)

-- 1 where a range that ends at a is passed when layer b is reached
abbrev pub passed : ℕ → ℕ → ℕ
passed a b = if leb a b then 1 else 0

-- two lists of ranges that tile the same layers
pub record SameLayers (a : List ℕ) (la : ℕ) (b : List ℕ) (lb : ℕ) : Type 0 where
  pub top : ℕ
  pub left : 3 * la ≤ length a
  pub right : 3 * lb ≤ length b
  pub left_tiles : Tiles 0 (decode la a) top
  pub right_tiles : Tiles 0 (decode lb b) top

-- both halves of index i fit
pub record HalvesFit (p : UsageFlags) (t s e : List ℕ) (i : ℕ) : Type 0 where
  pub start : held_fits p (extent_of t i) (held_of (numbers_of t) start_half t s i) ≡ true
  pub end : held_fits p (extent_of t i) (held_of (numbers_of t) end_half t e i) ≡ true

-- ---- The parts of the test, as the code makes them
abbrev pub mip_agrees : ℕ → List ℕ → List ℕ → List ℕ → ℕ → ℕ → Bool
mip_agrees u t s e i k = layers_agree u (mip_of (numbers_of t) start_half t s i k) (mip_of (numbers_of t) end_half t e i k)

abbrev pub itself : ℕ → ℕ
itself k = k

abbrev pub mips_agree : ℕ → List ℕ → List ℕ → List ℕ → ℕ → ℕ → Bool
mips_agree u t s e i n = every (mip_agrees u t s e i) (list_from itself 0 n)

abbrev pub ends_agree : ℕ → List ℕ → List ℕ → List ℕ → ℕ → Bool
ends_agree u t s e i =
    same_unknown u (subresources (extent_of t i) (held_of (numbers_of t) start_half t s i))
    (subresources (extent_of t i) (held_of (numbers_of t) end_half t e i))

-- a tracker's index i, and its first n indices
abbrev pub tracker_slot_fits : List ℕ → List ℕ → List ℕ → ℕ → Bool
tracker_slot_fits t s e i = slot_fits ends_fit (numbers_of t) (flags_of t) (tracker_slot t s e i)

abbrev pub tracker_slots_fit : List ℕ → List ℕ → List ℕ → ℕ → Bool
tracker_slots_fit t s e n = every (slot_fits ends_fit (numbers_of t) (flags_of t)) (list_from (tracker_slot t s e) 0 n)
