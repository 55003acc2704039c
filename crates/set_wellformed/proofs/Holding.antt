-- What an index holds, and the set of all indices, as the code tests them.
use Rattle.model.specs.Prelude.{ℕ, refl, ◌∙◌, Bool, true, false, List, leb, length, get_or, eq-eqb}
use Rattle.model.specs.{declared.{UsageFlags.UsageFlags, Extent.Extent}, Base.every, Flags.flags_fit, Sets.{Numbers, numbers_fit, capacity}}
use Rattle.model.specs.WellFormed.{single_fits, ranges_fit, held_fits, slot_fits, ends_fit, set_fits, scope_fits, tracker_fits}
use Rattle.model.specs.WellFormed.{well_formed_scope, well_formed_tracker}
use Rattle.std.specs.Prelude.{◌+◌, ◌/◌, ◌≤◌, ◌≡◌, ◌&&◌}
use Rattle.set_storage.specs.Storage.{numbers_of, flags_of, extent_of, start_half, mips_of, held_of, ends_of, slot_with, set_with, scope_of}
use Rattle.set_storage.specs.{Storage.{tracker_of, list_from, complex_at, layers_at, mips_at, textures_at}, Lists.list_long}
use Rattle.set_storage.specs.{Frames.mips_long, Slots.{held_many, held_single}}
use Rattle.set_wellformed.specs.{Parts.{head_fits, scope_slots_fit}, Unknowns.tracker_slots_fit}
use Rattle.set_wellformed.proofs.Mips.{mips_are}

-- Many, with as many mips as the extent tells
pub fits_many : (p : UsageFlags) (d : Numbers) (h : ℕ) (t r : List ℕ) (i : ℕ) → get_or t (h + i) 0 ≡ get_or t complex_at 0
    → get_or t (mips_at i) 0 ≤ d.mips
    → every (ranges_fit p (get_or t (layers_at i) 0) 0) (mips_of d h t r i) ≡ held_fits p (extent_of t i) (held_of d h t r i)
fits_many p d h t r i e top =
    rw (
      held_many d h t r i (mips_of d h t r i) e refl,
      eq-eqb (length (mips_of d h t r i)) (get_or t (mips_at i) 0)
          (mips_long d h t r i ∙ mips_are d t i top),
    )

pub fits_single : (p : UsageFlags) (d : Numbers) (h : ℕ) (t r : List ℕ) (i : ℕ) → (get_or t (h + i) 0 ≡ get_or t complex_at 0 → ⊥)
    → single_fits p (get_or t (h + i) 0) ≡ held_fits p (extent_of t i) (held_of d h t r i)
fits_single p d h t r i e = rw (held_single d h t r i e)

-- ---- a set has as many indices as it tells
set_fits_lem : {H : Type 0} (fits : UsageFlags → Extent → H → Bool) (held : ℕ → H) (t : List ℕ)
    → set_fits fits (set_with held t) ≡ (numbers_fit (numbers_of t) && flags_fit (flags_of t))
    && every (slot_fits fits (numbers_of t) (flags_of t)) (list_from (slot_with held t) 0 (get_or t textures_at 0))
set_fits_lem fits held t =
    rw (eq-eqb (length (list_from (slot_with held t) 0 (get_or t textures_at 0))) (get_or t textures_at 0)
    (list_long (slot_with held t) 0 (get_or t textures_at 0)))
    (go (numbers_fit (numbers_of t) && flags_fit (flags_of t))
    (every (slot_fits fits (numbers_of t) (flags_of t)) (list_from (slot_with held t) 0 (get_or t textures_at 0))))
  where
    go : (a b : Bool) → ((a && true) && b) ≡ (a && b)
    go true b = refl
    go false b = refl

and_swap : (a b c : Bool) → ((a && b) && c) ≡ ((a && c) && b)
and_swap true true true = refl
and_swap true true false = refl
and_swap true false true = refl
and_swap true false false = refl
and_swap false b c = refl

-- THE TEST of a scope: the head, then every index
pub scope_is : (t r : List ℕ)
    → well_formed_scope (length r / 3) (scope_of t r) ≡ (head_fits t (length r) && scope_slots_fit t r (get_or t textures_at 0))
unfolding scope_fits scope_of head_fits
scope_is t r =
    rw (set_fits_lem held_fits (held_of (numbers_of t) start_half t r) t)
    (and_swap (numbers_fit (numbers_of t) && flags_fit (flags_of t)) (scope_slots_fit t r (get_or t textures_at 0))
    (leb (capacity (numbers_of t)) (length r / 3)))

-- THE TEST of a tracker: the head, room for the end's ranges too, then every index
pub tracker_is : (t s e : List ℕ)
    → well_formed_tracker (length s / 3) (length e / 3) (tracker_of t s e)
    ≡ (head_fits t (length s) && leb (capacity (numbers_of t)) (length e / 3) && tracker_slots_fit t s e (get_or t textures_at 0))
unfolding tracker_fits tracker_of head_fits
tracker_is t s e =
    rw (
      set_fits_lem ends_fit (ends_of (numbers_of t) t s e) t,
      and_swap (numbers_fit (numbers_of t) && flags_fit (flags_of t)) (tracker_slots_fit t s e (get_or t textures_at 0))
          (leb (capacity (numbers_of t)) (length s / 3)),
    )
    (and_swap (numbers_fit (numbers_of t) && flags_fit (flags_of t) && leb (capacity (numbers_of t)) (length s / 3))
    (tracker_slots_fit t s e (get_or t textures_at 0)) (leb (capacity (numbers_of t)) (length e / 3)))
