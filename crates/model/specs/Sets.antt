-- Sets of textures, and opening them (01, "Opening numbers").
use Rattle.std.specs.Prelude.{◌*◌, ◌&&◌, ◌||◌, if◌then◌else◌}
use Rattle.model.specs.Prelude.{ℕ, Bool, false, not, Option, None, Some, List, map, ltb, eqb, replicate, get_or}
use Rattle.model.specs.{declared.{UsageFlags.UsageFlags, Extent.Extent}, Representation.Ends}

-- N, M and W
pub record Numbers : Type 0 where
  pub textures : ℕ
  pub mips : ℕ
  pub layers : ℕ

-- what is kept at an index
pub record Slot (H : Type 0) : Type 0 where
  pub owned : Bool
  pub extent : Extent
  pub held : H

-- its opening numbers, its flags, and what it keeps at each index
pub record Set (H : Type 0) : Type 0 where
  pub numbers : Numbers
  pub flags : UsageFlags
  pub slots : List (Slot H)

-- "A tracker also has an ordered mask"; "in a tracker start and end have a mark and cells each"
pub record Tracker (H : Type 0) : Type 0 where
  pub mask : ℕ
  pub set : Set (Ends H)

-- an index that is not owned
abbrev pub empty_slot : {H : Type 0} → H → Slot H
empty_slot h = record { owned = false; extent = record { mips = 0; layers = 0 }; held = h }

-- what a set keeps at i: past its end nothing is owned
abbrev pub slot_at : {H : Type 0} → H → Set H → ℕ → Slot H
slot_at h s i = get_or s.slots i (empty_slot h)

-- a set with other slots
abbrev pub with_slots : {H : Type 0} → Set H → List (Slot H) → Set H
with_slots s l = record { numbers = s.numbers; flags = s.flags; slots = l }

-- a tracker with other slots
abbrev pub with_tracker : {H : Type 0} → Tracker H → List (Slot (Ends H)) → Tracker H
with_tracker t l = record { mask = t.mask; set = with_slots t.set l }

-- ---- What the checks read of a set
-- its numbers, its flags, and the extents of the indices that it owns
pub record Head : Type 0 where
  pub numbers : Numbers
  pub flags : UsageFlags
  pub extents : List (Option Extent)

-- the extent of an index, if it is owned
abbrev pub own_extent : {H : Type 0} → Slot H → Option Extent
own_extent s = if s.owned then Some s.extent else None

-- the head of a set
abbrev pub head_of : {H : Type 0} → Set H → Head
head_of s = record { numbers = s.numbers; flags = s.flags; extents = map own_extent s.slots }

-- ---- Opening
-- what is asked for, and how many ranges are lent for it (for each of start and end in a tracker)
pub record Opening : Type 0 where
  pub numbers : Numbers
  pub flags : UsageFlags
  pub mask : ℕ
  pub room : ℕ

-- not 1 to `top`
abbrev pub outside : ℕ → ℕ → Bool
outside n top = eqb n 0 || ltb top n

-- "N textures (1 to 64), M mips (1 to 16), W layers (1 to 256)"
abbrev pub numbers_fit : Numbers → Bool
numbers_fit n = not (outside n.textures 64) && not (outside n.mips 16) && not (outside n.layers 256)

-- "lent room for N × M × W ranges"
abbrev pub capacity : Numbers → ℕ
capacity n = n.textures * n.mips * n.layers

-- "Opened, no index is owned and each state is UNINITIALIZED."
abbrev pub open_set : {H : Type 0} → (ℕ → H) → Opening → Set H
open_set h o = record {
  numbers = o.numbers;
  flags = o.flags;
  slots = replicate o.numbers.textures (empty_slot (h o.flags.uninitialized));
}

-- the same of a tracker, its start and its end
abbrev pub open_tracker : {H : Type 0} → (ℕ → H) → Opening → Tracker H
open_tracker h o = record { mask = o.mask; set = open_set (λ u. record { start = h u; end = h u }) o }
