-- A scope that owns less than it did: of its table some words of ownership became 0, so all else reads as it did.
use Rattle.std.specs.Prelude.{◌<◌, ◌≡◌, ◌∷◌}
use Rattle.model.specs.Prelude.{ℕ, zero, suc, ℕ_discrete, arith, refl, sym, ap, subst, ◌∙◌, true, false, false≢true, List, []}
use Rattle.model.specs.Prelude.{length, get_or, set, take, length-set, get_or-set_same, get_or-set_other, eq-eqb}
use Rattle.model.specs.Sets.{Numbers, with_slots}
use Rattle.set_storage.specs.Storage.{numbers_of, extent_of, owned_of, held_of, slot_with, set_with, scope_of, start_half, table_indices}
use Rattle.set_storage.specs.Storage.{table_length, textures_at, complex_at, owned_at, mips_at, layers_at, state_at, count_at}
use Rattle.set_storage.specs.Stays.{Stays, Only, stays_refl, stays_then, stays_more, stays_set, head_off, ScopeFrame}
use Rattle.set_storage.specs.Slots.{SlotFrame, set_becomes, held_ext, mip_ext}
use Rattle.set_ready.specs.{Tested.ScopeTested, Half.{HalfReady, HeadStays, numbers_stay, scope_still}}
use Rattle.call_remove.specs.Gone.{disowned}

-- ---- Every word stays but some of ownership
-- not the one of index i
abbrev OffOwned : ℕ → ℕ → Type 0
OffOwned i x = x ≡ owned_at i → ⊥

module _ {named : ℕ → Type 0} {g g₁ : List ℕ} (f : Stays OffOwned named g g₁) where
  -- the head
  pub owned_keeps : HeadStays g g₁
  owned_keeps = record { words = λ x q. f.same x (λ i _ _. (head_off i x q).head.owned); long = f.long }

  -- the extents
  pub extent_stays : (j : ℕ) → extent_of g₁ j ≡ extent_of g j
  extent_stays j = rw (f.same (mips_at j) (λ i h _ z. omega arith), f.same (layers_at j) (λ i h _ z. omega arith))

  -- what is held
  held_stays : (d : Numbers) (r : List ℕ) (j : ℕ) → held_of d start_half g₁ r j ≡ held_of d start_half g r j
  held_stays d r j =
      held_ext d start_half g r g₁ r j (f.same complex_at (λ i h _ z. omega arith)) (f.same (mips_at j) (λ i h _ z. omega arith))
      (f.same (state_at start_half j) (λ i h _ z. omega arith))
      (λ k q. mip_ext d start_half g r g₁ r j k (f.same (count_at start_half j k) (λ i h _ z. omega arith)) refl)

  -- a slot, where it is owned as before
  slot_stays : (d : Numbers) (r : List ℕ) (j : ℕ) → owned_of g₁ j ≡ owned_of g j
      → slot_with (held_of d start_half g₁ r) g₁ j ≡ slot_with (held_of d start_half g r) g j
  slot_stays d r j e = λ i. record { owned = e i; extent = extent_stays j i; held = held_stays d r j i }

-- ---- The scope without texture i
module _ (g : List ℕ) (i : ℕ) (few : i < table_indices) where
  -- its word alone changed
  off_one : Stays OffOwned (Only i) g (set g (owned_at i) 0)
  off_one = stays_set g (owned_at i) 0 few (λ x o. o)

  -- another is owned as before
  pub off_other : (j : ℕ) → (j ≡ i → ⊥) → owned_of (set g (owned_at i) 0) j ≡ owned_of g j
  off_other j ne = rw (get_or-set_other g (owned_at i) (owned_at j) 0 0 (λ z. ne (omega arith)))

  module _ (long : length g ≡ table_length) where
    -- it is not owned
    off_not : owned_of (set g (owned_at i) 0) i ≡ false
    off_not = rw (eq-eqb (get_or (set g (owned_at i) 0) (owned_at i) 0) 0 (get_or-set_same g (owned_at i) 0 0 (omega arith)))

    -- so what is owned still is another, and was owned
    pub off_still : (j : ℕ) → owned_of (set g (owned_at i) 0) j ≡ true → (j ≡ i → ⊥) × (owned_of g j ≡ true)
    off_still j o = go (ℕ_discrete j i)
      where
        go : Dec (j ≡ i) → (j ≡ i → ⊥) × (owned_of g j ≡ true)
        go (yes e) = absurd (false≢true (sym off_not ∙ rw e at o))
        go (no ne) = (ne, sym (off_other j ne) ∙ o)

    -- THE VIEW
    pub off_view : (r : List ℕ) → i < get_or g textures_at 0 → scope_of (set g (owned_at i) 0) r ≡ with_slots (scope_of g r)
        (set (scope_of g r).slots i (record { owned = false; extent = extent_of g i; held = held_of (numbers_of g) start_half g r i }))
    unfolding scope_of
    off_view r h =
        let n = numbers_of g in let g₁ = set g (owned_at i) 0 in let f = off_one in
        let q : SlotFrame (get_or g textures_at 0) i (held_of n start_half g r) (held_of n start_half g₁ r) g g₁ =
        record { head = (owned_keeps f).words; others = λ j a ne. slot_stays f n r j (off_other j ne) } in
        ap (λ (y : Numbers). set_with (held_of y start_half g₁ r) g₁) (numbers_stay (owned_keeps f))
        ∙ set_becomes _ h q (λ k. record { owned = off_not k; extent = extent_stays f i k; held = held_stays f n r i k })

-- ---- The scope without some of its textures
pub record Fewer (g g₁ : List ℕ) : Type 0 where
  pub words : Stays OffOwned (λ i. i < table_indices) g g₁
  pub less : (j : ℕ) → owned_of g₁ j ≡ true → owned_of g j ≡ true

-- without the first k that are listed
pub fewer : (is g : List ℕ) (k : ℕ) → ((j : ℕ) → j < length is → get_or is j 0 < table_indices) → length g ≡ table_length
    → Fewer g (disowned (take k is) g)
unfolding disowned
fewer is g zero b long = record { words = stays_refl g; less = λ j o. o }
fewer [] g (suc k) b long = record { words = stays_refl g; less = λ j o. o }
fewer (i ∷ is) g (suc k) b long =
    let few : i < table_indices = b 0 (omega arith) in
    let q = fewer is (set g (owned_at i) 0) k (λ j h. b (suc j) (omega arith)) (length-set g (owned_at i) 0 ∙ long) in record {
      words = stays_then (stays_more (λ j e. omega arith) (λ j x o. o) (off_one g i few)) q.words;
      less = λ j o. (off_still g i few long j (q.less j o)).1;
    }

-- a texture that it still owns is ready
pub still_ready : {g g₁ r : List ℕ} {j : ℕ} → Fewer g g₁ → ScopeTested g r → j < get_or g textures_at 0 → owned_of g₁ j ≡ true
    → HalfReady start_half g₁ r j (extent_of g₁ j)
still_ready {g} {g₁} {r} {j} v q h o =
    let f = v.words in let y = (q.slots j h).extent (v.less j o) in
    let same = ap (λ (d : Numbers). slot_with (held_of d start_half g₁ r) g₁ j) (numbers_stay (owned_keeps f))
    ∙ slot_stays f (numbers_of g) r j (o ∙ sym (v.less j o)) in
    let frame : ScopeFrame (λ i. i < table_indices) (numbers_of g) g r g₁ r =
    record { words = stays_more (λ i n. n) (λ i x z. z.head.owned) f; ranges = stays_refl r } in
    subst (HalfReady start_half g₁ r j) (sym (extent_stays f j))
    (scope_still q (record { texture = h; mip = y.mip; top = y.mips; some = y.layer; low = y.layers; own = λ z. refl }) frame same)
