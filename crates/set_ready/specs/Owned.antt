-- A texture that is owned, just now or before: what the functions on one texture ask for, how its slot reads after a change, and the view.
use Rattle.model.specs.Prelude.{ℕ, arith, refl, sym, ap, ◌∙◌, List, get_or, set, set_out}
use Rattle.model.specs.{declared.Extent.Extent, Sets.{Numbers, Slot, with_slots}, Calls.owning, BoolLaws.by_lt}
use Rattle.std.specs.Prelude.{◌≤◌, ◌<◌, ◌≡◌}
use Rattle.set_storage.specs.Storage.{numbers_of, flags_of, start_half, end_half, slot_with, set_with, list_from, owned_at, mips_at}
use Rattle.set_storage.specs.Storage.{layers_at, textures_at, complex_at, exclusive_at, layer_limit_at, mip_limit_at, uninitialized_at}
use Rattle.set_storage.specs.{Storage.{unknown_at, table_indices}, Lists.{list_ext, list_long}, Stays.HalfFrame}
use Rattle.set_storage.specs.Slots.{SlotFrame, own_words, scope_own, own_owned, own_mips, own_layers, half_low, slot_owned, set_becomes}
use Rattle.set_storage.specs.Texture.{TextureReady, numbers_low, flags_low, texture_dims, texture_away}
use Rattle.set_ready.specs.Half.{HalfReady, BothReady, HeadStays, scope_keeps, numbers_stay, flags_stay, measured_kept}

-- ---- A texture that has just become owned, in any half
module _ {h i : ℕ} {t r : List ℕ} {sh : Extent} (s : HalfReady h t r i sh) where
  keeps : HeadStays t (own_words t i sh)
  keeps = scope_keeps (scope_own (numbers_of t) t i sh s.measured.textures s.measured.mips s.texture.texture r)

  pub own_numbers : numbers_of (own_words t i sh) ≡ numbers_of t
  own_numbers = numbers_stay keeps

  pub own_flags : flags_of (own_words t i sh) ≡ flags_of t
  own_flags = flags_stay keeps

  -- by N, M and W as they were
  pub own_textured : TextureReady (numbers_of t) h (own_words t i sh) r i sh
  own_textured =
      let m = s.measured in let x = s.texture in
      record {
        measured = measured_kept keeps refl m;
        mips = own_mips (numbers_of t) t i sh m.textures m.mips x.texture m.table;
        layers = own_layers (numbers_of t) t i sh m.textures m.mips x.texture m.table;
        index = x.texture;
        mip = x.mip;
        top = x.top;
        some = x.some;
        low = x.low;
      }

  -- by those that its table tells
  pub own_ready : TextureReady (numbers_of (own_words t i sh)) h (own_words t i sh) r i sh
  own_ready = texture_dims own_textured

  pub now_owned : get_or (own_words t i sh) (owned_at i) 0 ≡ 0 → ⊥
  now_owned = own_owned (numbers_of t) t i sh s.measured.textures s.measured.mips s.texture.texture s.measured.table

-- in a tracker: its end, while the start changes
module _ {t s e : List ℕ} {i : ℕ} {sh : Extent} (q : BothReady t s e i sh) {t₁ s₁ : List ℕ}
    (f : HalfFrame (numbers_of (own_words t i sh)) start_half i (own_words t i sh) s t₁ s₁) where
  low : (y : ℕ) → y < start_half → get_or t₁ y 0 ≡ get_or (own_words t i sh) y 0
  low = half_low (own_ready q.start).measured (own_ready q.start).index f

  pub end_numbers : numbers_of t₁ ≡ numbers_of t
  end_numbers = numbers_low (own_words t i sh) t₁ low ∙ own_numbers q.start

  pub end_flags : flags_of t₁ ≡ flags_of t
  end_flags = flags_low (own_words t i sh) t₁ low ∙ own_flags q.start

  pub end_textured : TextureReady (numbers_of t₁) end_half t₁ e i sh
  end_textured = texture_dims (texture_away (own_ready q.end) (own_ready q.start).measured f)

-- ---- THE SLOT of an owned texture: the words below the halves stay, and what is held becomes x
pub owned_reads : {H : Type 0} {d : Numbers} {h i : ℕ} {u r : List ℕ} {sh : Extent} (held : ℕ → H) (t' : List ℕ) (x : H)
    → TextureReady d h u r i sh → (get_or u (owned_at i) 0 ≡ 0 → ⊥) → ((y : ℕ) → y < start_half → get_or t' y 0 ≡ get_or u y 0) → held i ≡ x
    → slot_with held t' i ≡ owning sh x
owned_reads {i = i} held t' x w own same e =
    let few : i < table_indices = omega (arith, w.measured.textures, w.index) in
    slot_owned held t' i x (λ z. own (sym (same (owned_at i) (omega arith)) ∙ z)) e
    ∙ rw (same (mips_at i) (omega arith), same (layers_at i) (omega arith), w.mips, w.layers)

-- ---- THE VIEW after a change of one texture, by functions that read what is held
-- a change past the last texture is none
set_stays : {H : Type 0} {i : ℕ} {held held' : ℕ → H} {t t' : List ℕ} (s : Slot H) → get_or t textures_at 0 ≤ i
    → SlotFrame (get_or t textures_at 0) i held held' t t'
    → set_with held' t' ≡ with_slots (set_with held t) (set (set_with held t).slots i s)
set_stays {H} {i} {held} {held'} {t} {t'} s h f =
    let n = get_or t textures_at 0 in let slot = slot_with held t in
    let q : list_from (slot_with held' t') 0 n ≡ set (list_from slot 0 n) i s =
    list_ext slot (slot_with held' t') 0 n (λ x a b. f.others x (omega arith) (λ w. omega arith))
    ∙ sym (set_out (list_from slot 0 n) i s (rw (list_long slot 0 n) h)) in
    rw (f.head textures_at (omega arith), f.head mip_limit_at (omega arith), f.head layer_limit_at (omega arith))
    (rw (
      f.head exclusive_at (omega arith),
      f.head uninitialized_at (omega arith),
      f.head complex_at (omega arith),
      f.head unknown_at (omega arith),
      q,
    ))

module _ {H : Type 0} (was is : Numbers → ℕ → H) {t t' : List ℕ} {i : ℕ}
    (f : SlotFrame (get_or t textures_at 0) i (was (numbers_of t)) (is (numbers_of t)) t t') where
  same_numbers : numbers_of t' ≡ numbers_of t
  same_numbers = rw (f.head textures_at (omega arith), f.head mip_limit_at (omega arith), f.head layer_limit_at (omega arith))

  pub slot_becomes : {x : Slot H} → slot_with (is (numbers_of t)) t' i ≡ x
      → set_with (is (numbers_of t')) t' ≡ with_slots (set_with (was (numbers_of t)) t) (set (set_with (was (numbers_of t)) t).slots i x)
  slot_becomes {x} e =
      ap (λ (n : Numbers). set_with (is n) t') same_numbers
      ∙ by_lt i (get_or t textures_at 0) (λ h. set_becomes x h f e) (λ h. set_stays x h f)

  -- another texture
  pub slot_other : (j : ℕ) → j < get_or t textures_at 0 → (j ≡ i → ⊥)
      → slot_with (is (numbers_of t')) t' j ≡ slot_with (was (numbers_of t)) t j
  slot_other j h ne = ap (λ (n : Numbers). slot_with (is n) t' j) same_numbers ∙ f.others j h ne
