-- What checks that passed show: of a texture, a selector, a state, a use, a set and a list.
use Rattle.model.specs.Prelude.{ℕ, arith, refl, sym, Bool, true, false, Option, None, Some, List, ltb, length, get_or, ltb-true, not-false}
use Rattle.model.specs.{declared.Refusal.TheVariants.FlagsDiffer}
use Rattle.model.specs.declared.{Extent.Extent, Refusal.Refusal, Selector.Selector, UsageFlags.UsageFlags}
use Rattle.model.specs.{Flags.same_flags, Sets.outside, Refusals.{same_extent, other_extent, set_refusal, sparse_refusal}, Log.or_next}
use Rattle.model.specs.BoolLaws.{by_lt, neither}
use Rattle.model.specs.CheckLaws.{passed, first_passed, none_both, inside, same_extent_lem, same_flags_lem, SelectorWithin, selector_within}
use Rattle.model.specs.CheckLaws.{StatePassed, state_shown}
use Rattle.std.specs.Prelude.{◌≤◌, ◌<◌, ◌≡◌, if◌then◌else◌}
use Rattle.set_storage.specs.Storage.{flags_of, owned_of, extent_of, layer_limit_at, mip_limit_at, textures_at}
use Rattle.set_checks.specs.Head.{owned_extent, head_in, extent_at, texture_refusal, selector_refusal, state_refusal, use_refusal}
use Rattle.set_checks.specs.Head.{use_splits}
use Rattle.set_checks.specs.Sets.{first_of, first_none, owned_refusal, listed_refusal, listed_at, listed_in, listed_past, set_splits}
use Rattle.set_checks.specs.Sets.{sparse_splits}

-- what 7, 8 and 9 show of texture i with extent sh
pub record TexturePassed (t : List ℕ) (i : ℕ) (sh : Extent) : Type 0 where
  pub texture : i < get_or t textures_at 0
  pub mip : 0 < sh.mips
  pub top : sh.mips ≤ get_or t mip_limit_at 0
  pub some : 0 < sh.layers
  pub low : sh.layers ≤ get_or t layer_limit_at 0
  pub own : owned_of t i ≡ true → extent_of t i ≡ sh

-- what 6 to 9 show of every texture that a given set owns
pub record SetPassed (t g : List ℕ) : Type 0 where
  pub flags : flags_of g ≡ flags_of t
  pub each : (i : ℕ) → i < get_or g textures_at 0 → owned_of g i ≡ true → TexturePassed t i (extent_of g i)

-- what 6 to 9 show of the listed textures that a given scope owns
pub record SparsePassed (t g list : List ℕ) : Type 0 where
  pub flags : flags_of g ≡ flags_of t
  pub below : (k : ℕ) → k < length list → get_or list k 0 < get_or g textures_at 0
  pub each : (k : ℕ) → k < length list → owned_of g (get_or list k 0) ≡ true
      → TexturePassed t (get_or list k 0) (extent_of g (get_or list k 0))

-- ---- 7, 8, 9
pub texture_passed : (t : List ℕ) (i : ℕ) (sh : Extent) → texture_refusal t i sh ≡ None → TexturePassed t i sh
unfolding texture_refusal
texture_passed t i sh e =
    let a = first_passed _ _ e in let b = first_passed _ _ a.1 in let c = first_passed _ _ b.1 in
    let h = ltb-true i (get_or t textures_at 0) (not-false (ltb i (get_or t textures_at 0)) a.0) in
    let l = neither (outside sh.mips (get_or t mip_limit_at 0)) (outside sh.layers (get_or t layer_limit_at 0)) b.0 in
    let m = inside sh.mips (get_or t mip_limit_at 0) l.0 in let w = inside sh.layers (get_or t layer_limit_at 0) l.1 in
    record { texture = h; mip = m.0; top = m.1; some = w.0; low = w.1; own = λ o. owned o (rw (extent_at t i h) at c.0) }
  where
    owned : owned_of t i ≡ true → other_extent (owned_extent t i) sh ≡ false → extent_of t i ≡ sh
    owned o d = same_extent_lem (extent_of t i) sh (not-false (same_extent (extent_of t i) sh) (rw o at d))

-- ---- 16 to 19, 11
pub selector_passed : (sh : Extent) (q : Selector) → selector_refusal sh (Some q) ≡ None → SelectorWithin sh q
unfolding selector_refusal
selector_passed sh q e = selector_within sh q (passed _ e)

-- ---- 12, 13
pub state_passed : (p : UsageFlags) (st : ℕ) → state_refusal p st ≡ None → StatePassed p st
unfolding state_refusal
state_passed p st e = state_shown p st (passed _ e)

-- ---- 7 to 13, 16 to 19: all of a use's
pub use_passed : (t : List ℕ) (i : ℕ) (sh : Extent) (s : Option Selector) (st : ℕ) → use_refusal t i sh s st ≡ None
    → (texture_refusal t i sh ≡ None) × ((selector_refusal sh s ≡ None) × (state_refusal (flags_of t) st ≡ None))
use_passed t i sh s st e =
    let a = none_both (or_next (texture_refusal t i sh) (selector_refusal sh s)) (state_refusal (flags_of t) st)
    (rw (use_splits t i sh s st) at e) in
    let b = none_both (texture_refusal t i sh) (selector_refusal sh s) a.0 in (b.0, (b.1, a.1))

-- ---- 6 to 9: a set's, and a list's
owned_passed : (t g : List ℕ) (i : ℕ) → owned_refusal t g i ≡ None → owned_of g i ≡ true → TexturePassed t i (extent_of g i)
unfolding owned_refusal texture_refusal
owned_passed t g i e o = texture_passed t i (extent_of g i) (rw o at e)

listed_passed : (t g : List ℕ) (i : ℕ) → listed_refusal t g i ≡ None → (i < get_or g textures_at 0) × (owned_refusal t g i ≡ None)
listed_passed t g i e =
    by_lt i (get_or g textures_at 0) (λ h. (h, rw (listed_in t g i h) at e))
    (λ h. absurd (let q = listed_past t g i h in let z : ◌≡◌ {A = ℕ} 0 1 = cc in omega arith))

-- the flags are the same, and of the rest none fails
flags_passed : (t g : List ℕ) (q : Option Refusal) → (if same_flags (flags_of t) (flags_of g) then q else Some FlagsDiffer) ≡ None
    → (flags_of g ≡ flags_of t) × (q ≡ None)
flags_passed t g q e = let s = go (same_flags (flags_of t) (flags_of g)) e in (sym (same_flags_lem (flags_of t) (flags_of g) s.0), s.1)
  where
    go : (b : Bool) → (if b then q else Some FlagsDiffer) ≡ None → (b ≡ true) × (q ≡ None)
    go true h = (refl, h)
    go false h = absurd (let z : ◌≡◌ {A = ℕ} 0 1 = cc in omega arith)

pub set_passed : (t g : List ℕ) → set_refusal (head_in t) (head_in g) ≡ None → SetPassed t g
set_passed t g e =
    let s = flags_passed t g _ (rw (set_splits t g) at e) in
    record {
      flags = s.0;
      each = λ i h o. owned_passed t g i (first_none (owned_refusal t g) 0 (get_or g textures_at 0) s.1 i (omega arith) (omega arith)) o;
    }

pub sparse_passed : (t g list : List ℕ) → sparse_refusal (head_in t) (head_in g) list ≡ None → SparsePassed t g list
sparse_passed t g list e =
    let s = flags_passed t g _ (rw (sparse_splits t g list) at e) in
    record {
      flags = s.0;
      below = λ k h. (at s.1 k h).0;
      each = λ k h o. owned_passed t g (get_or list k 0) (at s.1 k h).1 o;
    }
  where
    at : first_of (listed_at t g list) 0 (length list) ≡ None → (k : ℕ) → k < length list
        → (get_or list k 0 < get_or g textures_at 0) × (owned_refusal t g (get_or list k 0) ≡ None)
    at n k h = listed_passed t g (get_or list k 0) (first_none (listed_at t g list) 0 (length list) n k (omega arith) (omega arith))
