-- From a change of one texture to the view of the whole set: a scope's, and either half of a tracker's.
use Rattle.model.specs.Prelude.{ℕ, arith, refl, sym, ap, subst, ◌∙◌, inl, inr, List, length, get_or, set, length-set, get_or-set_same}
use Rattle.model.specs.Prelude.{get_or-set_other, eq-eqb, ne_eqb}
use Rattle.model.specs.{declared.{Range.Range, Extent.Extent}, Sets.{Numbers, Slot, with_slots}, Calls.owning, Texture.{Held, single, many}}
use Rattle.std.specs.Prelude.{◌+◌, ◌≤◌, ◌<◌, ◌≡◌, ◌⊎◌}
use Rattle.set_storage.specs.Storage.{half_length, extent_of, start_half, end_half, table_indices, owned_at, mips_at, layers_at, state_at}
use Rattle.set_storage.specs.Storage.{count_at, mip_part, mip_of, mips_in, mips_of, held_of, ends_of, slot_with, set_with, list_from}
use Rattle.set_storage.specs.Storage.{complex_at, table_length, textures_at, exclusive_at, head_length, layer_limit_at, mip_limit_at}
use Rattle.set_storage.specs.{Storage.{uninitialized_at, unknown_at}, Lists.{list_ext, list_set}}
use Rattle.set_storage.specs.Stays.{Stays, Only, stays_refl, stays_then, stays_set, stays_more, OffHead, OffScope, OffTracker, off_scope}
use Rattle.set_storage.specs.Stays.{head_off, owned_off, mips_off, layers_off, start_off, end_off, start_count_off, end_count_off}
use Rattle.set_storage.specs.Stays.{mip_stays, keeps_more, both_more, HalfFrame, ScopeFrame, BothFrame, TrackerFrame}
use Rattle.set_storage.specs.Frames.{Measured, MipsBecome, half_of, half_word_lem, half_below, half_above, frame_below, mips_top, mips_same}

-- ---- How a frame reads in the view: nothing but the slot of texture i differs
pub record SlotFrame {H : Type 0} (n i : ℕ) (held held' : ℕ → H) (t t' : List ℕ) : Type 0 where
  pub head : (x : ℕ) → x < head_length → get_or t' x 0 ≡ get_or t x 0
  pub others : (j : ℕ) → j < n → (j ≡ i → ⊥) → slot_with held' t' j ≡ slot_with held t j

-- THE VIEW after a change of one texture
pub set_becomes : {H : Type 0} {i : ℕ} {held held' : ℕ → H} {t t' : List ℕ} (s : Slot H) → i < get_or t textures_at 0
    → SlotFrame (get_or t textures_at 0) i held held' t t' → slot_with held' t' i ≡ s
    → set_with held' t' ≡ with_slots (set_with held t) (set (set_with held t).slots i s)
set_becomes {H} {i} {held} {held'} {t} {t'} s hi f e =
    let z : 0 + i ≡ i = omega arith in
    let q : list_from (slot_with held' t') 0 (get_or t textures_at 0) ≡ set (list_from (slot_with held t) 0 (get_or t textures_at 0)) i s =
    list_set (slot_with held t) (slot_with held' t') 0 (get_or t textures_at 0) i s hi (ap (λ (x : ℕ). slot_with held' t' x) z ∙ e)
    (λ x a b c. f.others x (omega arith) (λ w. c (omega arith))) in
    rw (
      f.head textures_at (omega arith),
      f.head mip_limit_at (omega arith),
      f.head layer_limit_at (omega arith),
      f.head exclusive_at (omega arith),
      f.head uninitialized_at (omega arith),
      f.head complex_at (omega arith),
      f.head unknown_at (omega arith),
      q,
    )

-- ---- What is held at an index, where its words and ranges are the same
pub held_ext : (d : Numbers) (h : ℕ) (t r t' r' : List ℕ) (j : ℕ) → get_or t' complex_at 0 ≡ get_or t complex_at 0
    → get_or t' (mips_at j) 0 ≡ get_or t (mips_at j) 0 → get_or t' (h + j) 0 ≡ get_or t (h + j) 0
    → ((k : ℕ) → k < d.mips → mip_of d h t' r' j k ≡ mip_of d h t r j k) → held_of d h t' r' j ≡ held_of d h t r j
unfolding held_of
held_ext d h t r t' r' j c b s g =
    let m : mips_in d t' j ≡ mips_in d t j = mips_same d t t' j b in
    let e : mips_of d h t' r' j ≡ mips_of d h t r j =
    rw m (list_ext (mip_of d h t r j) (mip_of d h t' r' j) 0 (mips_in d t j) (λ x _ q. g x (omega (arith, mips_top d t j)))) in
    rw (s, c, e)

pub mip_ext : (d : Numbers) (h : ℕ) (t r t' r' : List ℕ) (j k : ℕ) → get_or t' (count_at h j k) 0 ≡ get_or t (count_at h j k) 0
    → mip_part d r' j k ≡ mip_part d r j k → mip_of d h t' r' j k ≡ mip_of d h t r j k
unfolding mip_of
mip_ext d h t r t' r' j k e p = rw (e, p)

slot_ext : {H : Type 0} (held held' : ℕ → H) (t t' : List ℕ) (j : ℕ) → get_or t' (owned_at j) 0 ≡ get_or t (owned_at j) 0
    → get_or t' (mips_at j) 0 ≡ get_or t (mips_at j) 0 → get_or t' (layers_at j) 0 ≡ get_or t (layers_at j) 0 → held' j ≡ held j
    → slot_with held' t' j ≡ slot_with held t j
slot_ext held held' t t' j a b c e = rw (a, b, c, e)

-- ---- A change of the half h of texture i: what is held elsewhere stays
module _ {d : Numbers} {h i : ℕ} {t r t' r' : List ℕ} (s : Measured d h t r) (hi : i < d.textures) (f : HalfFrame d h i t r t' r') where
  -- a word of the head, of ownership or of an extent
  pub half_low : (x : ℕ) → x < start_half → get_or t' x 0 ≡ get_or t x 0
  half_low x q = half_below f x (omega (arith, s.half.0)) (λ z. omega (arith, s.half.0))

  -- any texture in the other half, whose ranges are lent apart
  pub half_away : (g : ℕ) → ((h + half_length ≤ g) ⊎ (g + half_length ≤ h)) → start_half ≤ g → (r₂ : List ℕ) (j : ℕ) → j < d.textures
      → held_of d g t' r₂ j ≡ held_of d g t r₂ j
  half_away g (inl o) low r₂ j a =
      held_ext d g t r₂ t' r₂ j (half_low complex_at (omega arith)) (half_low (mips_at j) (omega (arith, s.textures)))
      (half_above f (g + j) (omega (arith, s.textures)))
      (λ k q. mip_ext d g t r₂ t' r₂ j k (half_above f (count_at g j k) (omega (arith, s.textures))) refl)
  half_away g (inr o) low r₂ j a =
      held_ext d g t r₂ t' r₂ j (half_low complex_at (omega arith)) (half_low (mips_at j) (omega (arith, s.textures)))
      (half_below f (g + j) (omega (arith, s.textures)) (λ z. omega (arith, s.textures)))
      (λ k q. mip_ext d g t r₂ t' r₂ j k (half_below f (count_at g j k) (omega (arith, s.textures, s.mips))
      (λ z. omega (arith, s.textures, s.mips))) refl)

-- ---- The head reads as before
pub scope_head : {named : ℕ → Type 0} {d : Numbers} {t r t' r' : List ℕ} → ScopeFrame named d t r t' r' → (x : ℕ)
    → x < head_length → get_or t' x 0 ≡ get_or t x 0
scope_head f x q = f.words.same x (λ i _ _. off_scope i x (head_off i x q))

pub tracker_head : {named : ℕ → Type 0} {d : Numbers} {t s e t' s' e' : List ℕ} → TrackerFrame named d t s e t' s' e' → (x : ℕ)
    → x < head_length → get_or t' x 0 ≡ get_or t x 0
tracker_head f x q = f.words.same x (λ i _ _. head_off i x q)

-- ---- A slot that is not named reads as before
-- a word that is off every other index
tracker_word : {named : ℕ → Type 0} {t t' : List ℕ} → Stays OffTracker named t t' → (j x : ℕ) → (named j → ⊥)
    → ((i : ℕ) → i < table_indices → (j ≡ i → ⊥) → OffTracker i x) → get_or t' x 0 ≡ get_or t x 0
tracker_word {named} f j x out o = f.same x (λ i h y. o i h (λ e. out (subst named (sym e) y)))

scope_word : {named : ℕ → Type 0} {t t' : List ℕ} → Stays OffScope named t t' → (j x : ℕ) → (named j → ⊥)
    → ((i : ℕ) → i < table_indices → (j ≡ i → ⊥) → OffTracker i x) → get_or t' x 0 ≡ get_or t x 0
scope_word {named} f j x out o = f.same x (λ i h y. off_scope i x (o i h (λ e. out (subst named (sym e) y))))

module _ {named : ℕ → Type 0} {d : Numbers} (n : d.textures ≤ 64) (m : d.mips ≤ 16) where
  module _ {t r t' r' : List ℕ} (f : ScopeFrame named d t r t' r') where
    pub scope_other : (j : ℕ) → j < d.textures → (named j → ⊥)
        → slot_with (held_of d start_half t' r') t' j ≡ slot_with (held_of d start_half t r) t j
    scope_other j h out =
        let w = scope_word f.words j in let few : j < table_indices = omega arith in
        let b = w (mips_at j) out (λ i a ne. mips_off i j a few ne) in
        slot_ext (held_of d start_half t r) (held_of d start_half t' r') t t' j (w (owned_at j) out (λ i a ne. owned_off i j a few ne)) b
        (w (layers_at j) out (λ i a ne. layers_off i j a few ne))
        (held_ext d start_half t r t' r' j (scope_head f 5 (omega arith)) b
        (w (state_at start_half j) out (λ i a ne. start_off i j a few ne))
        (λ k q. mip_ext d start_half t r t' r' j k
        (w (count_at start_half j k) out (λ i a ne. start_count_off i j a few ne k (omega arith)))
        (mip_stays f.ranges j k out q)))

  module _ {t s e t' s' e' : List ℕ} (f : TrackerFrame named d t s e t' s' e') where
    pub tracker_other : (j : ℕ) → j < d.textures → (named j → ⊥) → slot_with (ends_of d t' s' e') t' j ≡ slot_with (ends_of d t s e) t j
    tracker_other j h out =
        let w = tracker_word f.words j in let few : j < table_indices = omega arith in
        let b = w (mips_at j) out (λ i a ne. mips_off i j a few ne) in let c = tracker_head f 5 (omega arith) in
        let x = held_ext d start_half t s t' s' j c b (w (state_at start_half j) out (λ i a ne. start_off i j a few ne))
        (λ k q. mip_ext d start_half t s t' s' j k
        (w (count_at start_half j k) out (λ i a ne. start_count_off i j a few ne k (omega arith)))
        (mip_stays f.starts j k out q)) in
        let y = held_ext d end_half t e t' e' j c b (w (state_at end_half j) out (λ i a ne. end_off i j a few ne))
        (λ k q. mip_ext d end_half t e t' e' j k (w (count_at end_half j k) out (λ i a ne. end_count_off i j a few ne k (omega arith)))
        (mip_stays f.ends j k out q)) in
        slot_ext (ends_of d t s e) (ends_of d t' s' e') t t' j (w (owned_at j) out (λ i a ne. owned_off i j a few ne)) b
        (w (layers_at j) out (λ i a ne. layers_off i j a few ne)) (rw (x, y))

-- one index is named
pub scope_slots : {d : Numbers} {i : ℕ} {t r t' r' : List ℕ} → d.textures ≤ 64 → d.mips ≤ 16 → ScopeFrame (Only i) d t r t' r'
    → SlotFrame d.textures i (held_of d start_half t r) (held_of d start_half t' r') t t'
scope_slots n m f = record { head = scope_head f; others = scope_other n m f }

pub tracker_slots : {d : Numbers} {i : ℕ} {t s e t' s' e' : List ℕ} → d.textures ≤ 64 → d.mips ≤ 16
    → TrackerFrame (Only i) d t s e t' s' e' → SlotFrame d.textures i (ends_of d t s e) (ends_of d t' s' e') t t'
tracker_slots n m f = record { head = tracker_head f; others = tracker_other n m f }

-- a change of the start is one of a scope's texture, and one of both halves of a tracker's
pub scope_half : {d : Numbers} {i : ℕ} {t r t' r' : List ℕ} → HalfFrame d start_half i t r t' r' → ScopeFrame (Only i) d t r t' r'
scope_half f = keeps_more (λ j e. e) (λ j x o. o.start) f

pub tracker_both : {d : Numbers} {i : ℕ} {t s e t' s' e' : List ℕ} → BothFrame d i t s e t' s' e' → TrackerFrame (Only i) d t s e t' s' e'
tracker_both f = both_more (λ j e. e) (λ j x o. o.both) f

-- ---- Texture i is owned, with an extent
abbrev pub own_words : List ℕ → ℕ → Extent → List ℕ
own_words t i sh = set (set (set t (owned_at i) 1) (mips_at i) sh.mips) (layers_at i) sh.layers

module _ (d : Numbers) (t : List ℕ) (i : ℕ) (sh : Extent) (n : d.textures ≤ 64) (m : d.mips ≤ 16) (hi : i < d.textures) where
  own_words_lem : Stays OffHead (Only i) t (own_words t i sh)
  own_words_lem =
      let few : i < table_indices = omega arith in
      stays_then (stays_set t (owned_at i) 1 few (λ x o. o.owned))
      (stays_then (stays_set (set t (owned_at i) 1) (mips_at i) sh.mips few (λ x o. o.mips))
      (stays_set (set (set t (owned_at i) 1) (mips_at i) sh.mips) (layers_at i) sh.layers few (λ x o. o.layers)))

  pub scope_own : (r : List ℕ) → ScopeFrame (Only i) d t r (own_words t i sh) r
  scope_own r = record { words = stays_more (λ j e. e) (λ j x o. o.head) own_words_lem; ranges = stays_refl r }

  pub tracker_own : (s e : List ℕ) → TrackerFrame (Only i) d t s e (own_words t i sh) s e
  tracker_own s e = record { words = stays_more (λ j e. e) (λ j x o. o.head) own_words_lem; starts = stays_refl s; ends = stays_refl e }

  module _ (long : length t ≡ table_length) where
    pub own_owned : get_or (own_words t i sh) (owned_at i) 0 ≡ 0 → ⊥
    own_owned z =
        let e : get_or (own_words t i sh) (owned_at i) 0 ≡ 1 =
        get_or-set_other (set (set t (owned_at i) 1) (mips_at i) sh.mips) (layers_at i) (owned_at i) sh.layers 0 (λ z. omega arith)
        ∙ get_or-set_other (set t (owned_at i) 1) (mips_at i) (owned_at i) sh.mips 0 (λ z. omega arith)
        ∙ get_or-set_same t (owned_at i) 1 0 (omega arith) in
        omega arith

    pub own_mips : get_or (own_words t i sh) (mips_at i) 0 ≡ sh.mips
    own_mips = get_or-set_other (set (set t (owned_at i) 1) (mips_at i) sh.mips) (layers_at i) (mips_at i) sh.layers 0 (λ z. omega arith)
        ∙ get_or-set_same (set t (owned_at i) 1) (mips_at i) sh.mips 0 (rw (length-set t (owned_at i) 1) (omega arith))

    pub own_layers : get_or (own_words t i sh) (layers_at i) 0 ≡ sh.layers
    own_layers = get_or-set_same (set (set t (owned_at i) 1) (mips_at i) sh.mips) (layers_at i) sh.layers 0
        (rw (length-set (set t (owned_at i) 1) (mips_at i) sh.mips, length-set t (owned_at i) 1) (omega arith))

-- ---- What is held at texture i itself
pub held_many : (d : Numbers) (h : ℕ) (t r : List ℕ) (i : ℕ) (ss : List (List Range)) → get_or t (h + i) 0 ≡ get_or t complex_at 0
    → mips_of d h t r i ≡ ss → held_of d h t r i ≡ many ss
unfolding held_of
held_many d h t r i ss c s = rw (eq-eqb (get_or t (h + i) 0) (get_or t complex_at 0) c, s)

pub held_single : (d : Numbers) (h : ℕ) (t r : List ℕ) (i : ℕ) → (get_or t (h + i) 0 ≡ get_or t complex_at 0 → ⊥)
    → held_of d h t r i ≡ single (get_or t (h + i) 0)
unfolding held_of
held_single d h t r i c = rw (ne_eqb (get_or t (h + i) 0) (get_or t complex_at 0) c)

pub slot_owned : {H : Type 0} (held : ℕ → H) (t : List ℕ) (i : ℕ) (x : H) → (get_or t (owned_at i) 0 ≡ 0 → ⊥) → held i ≡ x
    → slot_with held t i ≡ owning (extent_of t i) x
slot_owned held t i x o e = rw (ne_eqb (get_or t (owned_at i) 0) 0 o, e)

-- ---- The half h of texture i becomes x, and nothing else is touched
pub record HalfBecomes (d : Numbers) (h i : ℕ) (x : Held) (t r t' r' : List ℕ) : Type 0 where
  pub held : held_of d h t' r' i ≡ x
  pub frame : HalfFrame d h i t r t' r'

-- a state that is not COMPLEX is written
pub become_single : {d : Numbers} {h i v : ℕ} {t r : List ℕ} → Measured d h t r → i < d.textures → (v ≡ get_or t complex_at 0 → ⊥)
    → HalfBecomes d h i (single v) t r (set t (h + i) v) r
become_single {d} {h} {i} {v} {t} {r} s hi c =
    let w = get_or-set_same t (h + i) v 0 (omega (arith, s.table, s.half.1, s.textures)) in
    let k = get_or-set_other t (h + i) 5 v 0 (λ z. omega (arith, s.half.0)) in
    record {
      held = held_single d h (set t (h + i) v) r i (λ z. c (sym w ∙ z ∙ k)) ∙ ap single w;
      frame = half_word_lem d h i v t r (omega (arith, s.textures));
    }

-- the mips of a texture whose state tells COMPLEX
pub become_many : {d : Numbers} {h i : ℕ} {ss : List (List Range)} {t r t' r' : List ℕ} → Measured d h t r → i < d.textures
    → get_or t (h + i) 0 ≡ get_or t complex_at 0 → MipsBecome d h i ss t r t' r' → HalfBecomes d h i (many ss) t r t' r'
become_many {d} {h} {i} {ss} {t} {r} {t'} {r'} s hi c b =
    record {
      held = held_many d h t' r' i ss (frame_below b.frame (h + i) (omega (arith, s.textures)) ∙ c
          ∙ sym (frame_below b.frame complex_at (omega (arith, s.half.0)))) b.mips;
      frame = half_of b.frame;
    }

-- the mips as they lie, once the state tells COMPLEX
pub become_marked : {d : Numbers} {h i v : ℕ} {t r : List ℕ} → Measured d h t r → i < d.textures → v ≡ get_or t complex_at 0
    → HalfBecomes d h i (many (mips_of d h t r i)) t r (set t (h + i) v) r
become_marked {d} {h} {i} {v} {t} {r} s hi c =
    let w = get_or-set_same t (h + i) v 0 (omega (arith, s.table, s.half.1, s.textures)) in
    let k = get_or-set_other t (h + i) 5 v 0 (λ z. omega (arith, s.half.0)) in
    let n : mips_in d (set t (h + i) v) i ≡ mips_in d t i =
    mips_same d t (set t (h + i) v) i (get_or-set_other t (h + i) (mips_at i) v 0 (λ z. omega (arith, s.half.0))) in
    let e : mips_of d h (set t (h + i) v) r i ≡ mips_of d h t r i =
    rw n (list_ext (mip_of d h t r i) (mip_of d h (set t (h + i) v) r i) 0 (mips_in d t i)
    (λ x _ _. mip_ext d h t r (set t (h + i) v) r i x (get_or-set_other t (h + i) (count_at h i x) v 0 (λ z. omega arith)) refl)) in
    record {
      held = held_many d h (set t (h + i) v) r i (mips_of d h t r i) (w ∙ c ∙ sym k) e;
      frame = half_word_lem d h i v t r (omega (arith, s.textures));
    }
