-- The lent numbers as the model's sets: THE VIEW.
use Rattle.model.specs.Prelude.{ℕ, zero, suc, min, Bool, not, List, [], eqb, leb, get_or}
use Rattle.model.specs.{declared.{Range.Range, UsageFlags.UsageFlags, Extent.Extent}, Representation.Ends}
use Rattle.model.specs.{Sets.{Numbers, Slot, Set, Tracker}, Texture.{Held, single, many}}
use Rattle.std.specs.Prelude.{◌+◌, ◌*◌, ◌∷◌, if◌then◌else◌}
use Rattle.range_states.specs.View.{decode}
use Rattle.set_storage.specs.Part.{base_of, part_of}

-- ---- Where the words of a table stand: its head first
abbrev pub textures_at : ℕ
textures_at = 0

abbrev pub mip_limit_at : ℕ
mip_limit_at = 1

abbrev pub layer_limit_at : ℕ
layer_limit_at = 2

abbrev pub exclusive_at : ℕ
exclusive_at = 3

abbrev pub uninitialized_at : ℕ
uninitialized_at = 4

abbrev pub complex_at : ℕ
complex_at = 5

abbrev pub unknown_at : ℕ
unknown_at = 6

abbrev pub mask_at : ℕ
mask_at = 7

-- how many words a table has, its head, and a half of it; and for how many indices
abbrev pub table_length : ℕ
table_length = 2376

abbrev pub head_length : ℕ
head_length = 8

abbrev pub half_length : ℕ
half_length = 1088

abbrev pub table_indices : ℕ
table_indices = 64

-- the words of an index: whether it is owned, its extent, and its state in the half that begins at h
abbrev pub owned_at : ℕ → ℕ
owned_at i = 8 + i

abbrev pub mips_at : ℕ → ℕ
mips_at i = 72 + i

abbrev pub layers_at : ℕ → ℕ
layers_at i = 136 + i

abbrev pub state_at : ℕ → ℕ → ℕ
state_at h i = h + i

-- where the two halves begin: a scope's states or a tracker's start, and a tracker's end
abbrev pub start_half : ℕ
start_half = 200

abbrev pub end_half : ℕ
end_half = 1288

-- where the count of the ranges of (i, k) stands, in the half that begins at h
abbrev pub count_at : ℕ → ℕ → ℕ → ℕ
count_at h i k = h + 64 + (16 * i + k)

-- where the ranges of index i begin, and those of i - 1 end
abbrev pub ranges_at : Numbers → ℕ → ℕ
ranges_at d i = i * d.mips * d.layers * 3

-- ---- The head of a table
abbrev pub numbers_of : List ℕ → Numbers
numbers_of t = record { textures = get_or t textures_at 0; mips = get_or t mip_limit_at 0; layers = get_or t layer_limit_at 0 }

abbrev pub flags_of : List ℕ → UsageFlags
flags_of t = record {
  exclusive = get_or t exclusive_at 0;
  uninitialized = get_or t uninitialized_at 0;
  complex = get_or t complex_at 0;
  unknown = get_or t unknown_at 0;
}

-- ---- The words of an index
abbrev pub extent_of : List ℕ → ℕ → Extent
extent_of t i = record { mips = get_or t (mips_at i) 0; layers = get_or t (layers_at i) 0 }

abbrev pub owned_of : List ℕ → ℕ → Bool
owned_of t i = not (eqb (get_or t (owned_at i) 0) 0)

-- ---- The ranges of a texture
-- the numbers of the ranges of (i, k)
abbrev pub mip_part : Numbers → List ℕ → ℕ → ℕ → List ℕ
mip_part d r i k = part_of r (base_of i k d.mips d.layers) (3 * d.layers)

-- a count past the room is no ranges
unfoldable pub mip_of : Numbers → ℕ → List ℕ → List ℕ → ℕ → ℕ → List Range
mip_of d h t r i k = if leb (get_or t (count_at h i k) 0) d.layers then decode (get_or t (count_at h i k) 0) (mip_part d r i k) else []

-- f k, f (k + 1) and so on, n of them
unfoldable pub list_from : {A : Type 0} → (ℕ → A) → ℕ → ℕ → List A
list_from f k zero = []
list_from f k (suc n) = f k ∷ list_from f (suc k) n

-- how many mips texture i has; an index that is not owned may tell any number, and no more than M are read
unfoldable pub mips_in : Numbers → List ℕ → ℕ → ℕ
mips_in d t i = min (get_or t (mips_at i) 0) d.mips

abbrev pub mips_of : Numbers → ℕ → List ℕ → List ℕ → ℕ → List (List Range)
mips_of d h t r i = list_from (mip_of d h t r i) 0 (mips_in d t i)

-- ---- One texture in one half: Single, or, where the word tells COMPLEX, Many
unfoldable pub held_of : Numbers → ℕ → List ℕ → List ℕ → ℕ → Held
held_of d h t r i = if eqb (get_or t (state_at h i) 0) (get_or t complex_at 0) then many (mips_of d h t r i)
    else single (get_or t (state_at h i) 0)

abbrev pub ends_of : Numbers → List ℕ → List ℕ → List ℕ → ℕ → Ends Held
ends_of d t s e i = record { start = held_of d start_half t s i; end = held_of d end_half t e i }

-- ---- A set, by what it holds at each index
abbrev pub slot_with : {H : Type 0} → (ℕ → H) → List ℕ → ℕ → Slot H
slot_with held t i = record { owned = owned_of t i; extent = extent_of t i; held = held i }

-- index i of a scope, and of a tracker
abbrev pub scope_slot : List ℕ → List ℕ → ℕ → Slot Held
scope_slot t r = slot_with (held_of (numbers_of t) start_half t r) t

abbrev pub tracker_slot : List ℕ → List ℕ → List ℕ → ℕ → Slot (Ends Held)
tracker_slot t s e = slot_with (ends_of (numbers_of t) t s e) t

-- all of them
abbrev pub set_with : {H : Type 0} → (ℕ → H) → List ℕ → Set H
set_with held t = record { numbers = numbers_of t; flags = flags_of t; slots = list_from (slot_with held t) 0 (get_or t textures_at 0) }

unfoldable pub scope_of : List ℕ → List ℕ → Set Held
scope_of t r = set_with (held_of (numbers_of t) start_half t r) t

unfoldable pub tracker_of : List ℕ → List ℕ → List ℕ → Tracker Held
tracker_of t s e = record { mask = get_or t mask_at 0; set = set_with (ends_of (numbers_of t) t s e) t }
