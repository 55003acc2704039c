-- What is known of a mip and of a texture that were tested, and the four cases of start and end.
use Rattle.model.specs.Prelude.{ℕ, refl, sym, ◌∙◌, true, false, List, map, eqb, eqb-true, eqb-false, length, get_or, replicate}
use Rattle.model.specs.{declared.{Range.Range, UsageFlags.UsageFlags}, Base.every, RangedStates.{layer_states, Tiles}}
use Rattle.model.specs.{WellFormed.{held_fits, all₂}, BoolLaws.{and_both as both}, Subresources.subresources}
use Rattle.std.specs.Prelude.{◌+◌, ◌<◌, ◌≡◌}
use Rattle.set_storage.specs.Storage.{numbers_of, flags_of, extent_of, start_half, end_half, mip_of, mips_of, held_of, complex_at}
use Rattle.set_storage.specs.{Storage.{unknown_at, layers_at, mips_at, state_at}, Frames.{mips_long}}
use Rattle.set_storage.specs.Slots.{held_many, held_single}
use Rattle.set_wellformed.specs.Parts.{Sized, is_many, mips_fit}
use Rattle.set_wellformed.specs.Unknowns.{agrees, is_known, HalvesFit, mips_agree, ends_agree}
use Rattle.set_wellformed.proofs.Mips.{mips_are, mip_at_fits}
use Rattle.set_wellformed.proofs.Known.{single_known, fits_tiles, mips_known, all_same, all_sym, agrees_sym, mips_beside}

-- ---- The mips of a texture that fits tile its layers
pub mip_tiles : (p : UsageFlags) (h : ℕ) (t r : List ℕ) (i m : ℕ) → Sized t i → mips_fit p h t r i ≡ true → m < get_or t (mips_at i) 0
    → Tiles 0 (mip_of (numbers_of t) h t r i m) (get_or t (layers_at i) 0)
mip_tiles p h t r i m q f l =
    fits_tiles p (get_or t (layers_at i) 0) 0 (mip_of (numbers_of t) h t r i m) (mip_at_fits p h t r i m q f l)

mips_of_lem : (p : UsageFlags) (h : ℕ) (t r : List ℕ) (i : ℕ) → get_or t (h + i) 0 ≡ get_or t complex_at 0
    → held_fits p (extent_of t i) (held_of (numbers_of t) h t r i) ≡ true → mips_fit p h t r i ≡ true
mips_of_lem p h t r i e f =
    let g = rw (held_many (numbers_of t) h t r i (mips_of (numbers_of t) h t r i) e refl) at f in
    (both (eqb (length (mips_of (numbers_of t) h t r i)) (get_or t (mips_at i) 0)) (mips_fit p h t r i) g).1

state_known : (p : UsageFlags) (h : ℕ) (t r : List ℕ) (i : ℕ) → (get_or t (h + i) 0 ≡ get_or t complex_at 0 → ⊥)
    → held_fits p (extent_of t i) (held_of (numbers_of t) h t r i) ≡ true → eqb (get_or t (h + i) 0) p.unknown ≡ false
state_known p h t r i e f = single_known p (get_or t (h + i) 0) (rw (held_single (numbers_of t) h t r i e) at f)

-- a state that is not UNKNOWN everywhere, beside mips that fit
beside : (p : UsageFlags) (h : ℕ) (t r : List ℕ) (i a : ℕ) → eqb a p.unknown ≡ false → Sized t i → mips_fit p h t r i ≡ true
    → all₂ (all₂ (agrees p.unknown)) (replicate (get_or t (mips_at i) 0) (replicate (get_or t (layers_at i) 0) a)) (map layer_states
    (mips_of (numbers_of t) h t r i)) ≡ every (every (is_known p.unknown)) (mips_of (numbers_of t) h t r i)
beside p h t r i a k q f =
    mips_known p.unknown a k p (get_or t (layers_at i) 0) (mips_of (numbers_of t) h t r i) (get_or t (mips_at i) 0)
    (mips_long (numbers_of t) h t r i ∙ mips_are (numbers_of t) t i q.top) f

-- ---- THE FOUR CASES
module _ {t s e : List ℕ} {i : ℕ} (f : HalvesFit (flags_of t) t s e i) where
  pub start_mips : is_many t start_half i ≡ true → mips_fit (flags_of t) start_half t s i ≡ true
  start_mips a = mips_of_lem (flags_of t) start_half t s i (eqb-true _ _ a) f.start

  pub end_mips : is_many t end_half i ≡ true → mips_fit (flags_of t) end_half t e i ≡ true
  end_mips b = mips_of_lem (flags_of t) end_half t e i (eqb-true _ _ b) f.end

  abbrev u : ℕ
  u = get_or t unknown_at 0

  abbrev starts : List (List Range)
  starts = mips_of (numbers_of t) start_half t s i

  abbrev ends : List (List Range)
  ends = mips_of (numbers_of t) end_half t e i

  pub ends_single : is_many t start_half i ≡ false
      → is_many t end_half i ≡ false → true ≡ ends_agree u t s e i
  unfolding subresources
  ends_single a b =
      let x = state_known (flags_of t) start_half t s i (eqb-false _ _ a) f.start in
      let y = state_known (flags_of t) end_half t e i (eqb-false _ _ b) f.end in
      rw (held_single (numbers_of t) start_half t s i (eqb-false _ _ a), held_single (numbers_of t) end_half t e i (eqb-false _ _ b))
      (sym (all_same (all₂ (agrees u)) (replicate (get_or t (layers_at i) 0) (get_or t (state_at start_half i) 0))
      (replicate (get_or t (layers_at i) 0) (get_or t (state_at end_half i) 0))
      (all_same (agrees u) (get_or t (state_at start_half i) 0) (get_or t (state_at end_half i) 0) (rw (x, y))
      (get_or t (layers_at i) 0)) (get_or t (mips_at i) 0)))

  pub ends_start : Sized t i → is_many t start_half i ≡ true → is_many t end_half i ≡ false
      → every (every (is_known u)) starts ≡ ends_agree u t s e i
  unfolding subresources
  ends_start q a b =
      let y = state_known (flags_of t) end_half t e i (eqb-false _ _ b) f.end in
      rw (
        held_many (numbers_of t) start_half t s i starts (eqb-true _ _ a) refl,
        held_single (numbers_of t) end_half t e i (eqb-false _ _ b),
      )
      (sym (beside (flags_of t) start_half t s i (get_or t (state_at end_half i) 0) y q (start_mips a))
      ∙ all_sym (all₂ (agrees u)) (all_sym (agrees u) (agrees_sym u))
      (replicate (get_or t (mips_at i) 0) (replicate (get_or t (layers_at i) 0) (get_or t (state_at end_half i) 0)))
      (map layer_states starts))

  pub ends_end : Sized t i → is_many t start_half i ≡ false → is_many t end_half i ≡ true
      → every (every (is_known u)) ends ≡ ends_agree u t s e i
  unfolding subresources
  ends_end q a b =
      let x = state_known (flags_of t) start_half t s i (eqb-false _ _ a) f.start in
      rw (held_single (numbers_of t) start_half t s i (eqb-false _ _ a), held_many (numbers_of t) end_half t e i ends (eqb-true _ _ b) refl)
      (sym (beside (flags_of t) end_half t e i (get_or t (state_at start_half i) 0) x q (end_mips b)))

  pub ends_many : Sized t i → is_many t start_half i ≡ true → is_many t end_half i ≡ true
      → mips_agree u t s e i (get_or t (mips_at i) 0) ≡ ends_agree u t s e i
  unfolding subresources
  ends_many q a b =
      rw (
        held_many (numbers_of t) start_half t s i starts (eqb-true _ _ a) refl,
        held_many (numbers_of t) end_half t e i ends (eqb-true _ _ b) refl,
        mips_are (numbers_of t) t i q.top,
      )
      (sym (mips_beside u (mip_of (numbers_of t) start_half t s i) (mip_of (numbers_of t) end_half t e i) 0 (get_or t (mips_at i) 0)))
