-- What the test of a set has shown of its storage, index by index.
use Rattle.model.specs.Prelude.{ℕ, arith, refl, sym, ap, subst, ◌∙◌, true, and-eq-true_iff, List, [], bit_and, bit_or, and_comm, and_self}
use Rattle.model.specs.Prelude.{length, get_or}
use Rattle.model.specs.{declared.{UsageFlags.UsageFlags, Extent.Extent, Range.Range}, Flags.flags_fit, RangedStates.Tiles, Texture.many}
use Rattle.model.specs.{WellFormed.{well_formed_scope, well_formed_tracker}, ListLaws.all_at}
use Rattle.std.specs.Prelude.{◌+◌, ◌/◌, ◌≤◌, ◌<◌, ◌≡◌}
use Rattle.usage.specs.BitLaws.{and_or, or_zero}
use Rattle.set_storage.specs.Storage.{tracker_slot, scope_slot, numbers_of, flags_of, extent_of, start_half, end_half, mip_of, mips_in}
use Rattle.set_storage.specs.Storage.{mips_of, held_of, ends_of, slot_with, set_with, scope_of, tracker_of, list_from, complex_at}
use Rattle.set_storage.specs.{Storage.{layers_at, mip_limit_at, mips_at, table_length, textures_at}, Lists.{list_at, list_long}}
use Rattle.set_storage.specs.{Frames.{Measured, mip_at, mips_long, measured_of}, Slots.{held_many, held_single}}
use Rattle.agreement.specs.{Fits.{SingleFits, MipFits, HeldFits, EndsFit, SlotFits, SetFits}, Decides.{scope_to, tracker_to}}

-- ---- What an owned texture holds in the half h: ranges that tile its layers where its word tells COMPLEX, otherwise a state that fits
pub record HalfFits (h : ℕ) (t r : List ℕ) (i : ℕ) : Type 0 where
  pub tiled : get_or t (h + i) 0 ≡ get_or t complex_at 0 → (k : ℕ) → k < get_or t (mips_at i) 0
      → Tiles 0 (mip_of (numbers_of t) h t r i k) (get_or t (layers_at i) 0)
  pub state : (get_or t (h + i) 0 ≡ get_or t complex_at 0 → ⊥) → SingleFits (flags_of t) (get_or t (h + i) 0)

pub half_fits : (h : ℕ) (t r : List ℕ) (i : ℕ) → get_or t (mips_at i) 0 ≤ get_or t mip_limit_at 0
    → HeldFits (flags_of t) (extent_of t i) (held_of (numbers_of t) h t r i) → HalfFits h t r i
half_fits h t r i top f = record {
  tiled = λ c k l.
      let g : HeldFits (flags_of t) (extent_of t i) (many (mips_of (numbers_of t) h t r i)) = subst (HeldFits (flags_of t) (extent_of t i))
      (held_many (numbers_of t) h t r i (mips_of (numbers_of t) h t r i) c refl) f in
      let n : k < length (mips_of (numbers_of t) h t r i) = rw g.0 l in
      let m : k < mips_in (numbers_of t) t i = rw (mips_long (numbers_of t) h t r i) at n in
      subst (λ (s : List Range). Tiles 0 s (get_or t (layers_at i) 0)) (mip_at (numbers_of t) h t r i k [] m)
      (all_at (MipFits (flags_of t) (get_or t (layers_at i) 0)) (mips_of (numbers_of t) h t r i) k [] g.1 n).tiles;
  state = λ c. subst (HeldFits (flags_of t) (extent_of t i)) (held_single (numbers_of t) h t r i c) f;
}

-- ---- States without COMPLEX
-- a nonzero state without a bit is not that bit
pub not_bit : (s c : ℕ) → (s ≡ 0 → ⊥) → bit_and s c ≡ 0 → s ≡ c → ⊥
not_bit s c n e z = n (sym (and_self s) ∙ ap (bit_and s) z ∙ e)

-- nor is any union with it
pub union_not_bit : (x s c : ℕ) → (s ≡ 0 → ⊥) → bit_and s c ≡ 0 → bit_or x s ≡ c → ⊥
union_not_bit x s c n e z =
    let a : bit_or (bit_and x s) s ≡ 0 = ap (bit_or (bit_and x s)) (sym (and_self s)) ∙ sym (and_or x s s)
    ∙ ap (λ (y : ℕ). bit_and y s) z ∙ and_comm c s ∙ e in
    n (or_zero (bit_and x s) s a).1

-- ---- A set that passed the test
-- each of its slots fits
slot_of : {H : Type 0} (P : UsageFlags → Extent → H → Type 0) (held : ℕ → H) (t : List ℕ) → SetFits P (set_with held t)
    → (i : ℕ) → i < get_or t textures_at 0 → SlotFits P (numbers_of t) (flags_of t) (slot_with held t i)
slot_of P held t f i h =
    let fits = SlotFits P (numbers_of t) (flags_of t) in let slot = slot_with held t in let n = get_or t textures_at 0 in
    subst fits (list_at slot n i (slot 0) h) (all_at fits (list_from slot 0 n) i (slot 0) f.slots (rw (list_long slot 0 n) h))

-- a scope: how its storage is measured, its flags, and each slot
pub record ScopeTested (t r : List ℕ) : Type 0 where
  pub measured : Measured (numbers_of t) start_half t r
  pub flags : flags_fit (flags_of t) ≡ true
  pub slots : (i : ℕ) → i < get_or t textures_at 0 → SlotFits HeldFits (numbers_of t) (flags_of t) (scope_slot t r i)

pub scope_tested : (t r : List ℕ) → length t ≡ table_length → well_formed_scope (length r / 3) (scope_of t r) ≡ true → ScopeTested t r
unfolding scope_of
scope_tested t r size e =
    let a = (and-eq-true_iff _ _).0 e in let f = scope_to (scope_of t r) a.0 in
    record {
      measured = measured_of start_half t r (omega arith, omega arith) size f.numbers a.1;
      flags = f.flags;
      slots = slot_of HeldFits (held_of (numbers_of t) start_half t r) t f;
    }

-- a tracker: the same, of both halves
pub record TrackerTested (t s e : List ℕ) : Type 0 where
  pub starts : Measured (numbers_of t) start_half t s
  pub ends : Measured (numbers_of t) end_half t e
  pub flags : flags_fit (flags_of t) ≡ true
  pub slots : (i : ℕ) → i < get_or t textures_at 0 → SlotFits EndsFit (numbers_of t) (flags_of t) (tracker_slot t s e i)

pub tracker_tested : (t s e : List ℕ) → length t ≡ table_length
    → well_formed_tracker (length s / 3) (length e / 3) (tracker_of t s e) ≡ true → TrackerTested t s e
unfolding tracker_of
tracker_tested t s e size w =
    let a = (and-eq-true_iff _ _).0 w in let b = (and-eq-true_iff _ _).0 a.0 in let f = tracker_to (tracker_of t s e) b.0 in
    record {
      starts = measured_of start_half t s (omega arith, omega arith) size f.numbers b.1;
      ends = measured_of end_half t e (omega arith, omega arith) size f.numbers a.1;
      flags = f.flags;
      slots = slot_of EndsFit (ends_of (numbers_of t) t s e) t f;
    }
