-- One half of a texture that passed the checks, in a set that passed the test: ready for the functions over it, and ready still while
-- others change.
use Rattle.model.specs.Prelude.{ℕ, arith, refl, sym, ap, subst, ◌∙◌, true, List, length, get_or}
use Rattle.model.specs.{declared.{UsageFlags.UsageFlags, Extent.Extent}, Sets.{Numbers, Slot}}
use Rattle.std.specs.Prelude.{◌<◌, ◌≡◌}
use Rattle.set_storage.specs.Storage.{numbers_of, flags_of, owned_of, start_half, end_half, held_of, ends_of, slot_with, owned_at}
use Rattle.set_storage.specs.Storage.{scope_slot, tracker_slot, complex_at, exclusive_at, head_length, layer_limit_at, mip_limit_at}
use Rattle.set_storage.specs.Storage.{textures_at, uninitialized_at, unknown_at}
use Rattle.set_storage.specs.{Stays.{Only, keeps_refl, both_refl, ScopeFrame, TrackerFrame}, Frames.Measured}
use Rattle.set_storage.specs.{Slots.{scope_head, tracker_head}, Texture.TextureHeld}
use Rattle.set_checks.specs.Passed.{TexturePassed}
use Rattle.agreement.specs.Fits.{HeldFits, EndsFit, SlotFits}
use Rattle.set_ready.specs.{Tested.{HalfFits, half_fits, ScopeTested, TrackerTested}, Checked.{word_owned, texture_held}}

-- texture i in the half h: it passed the checks, and where it is owned, what it holds fits
pub record HalfReady (h : ℕ) (t r : List ℕ) (i : ℕ) (sh : Extent) : Type 0 where
  pub measured : Measured (numbers_of t) h t r
  pub texture : TexturePassed t i sh
  pub held : owned_of t i ≡ true → HalfFits h t r i

-- an owned one, as the half holds it
pub half_held : {h : ℕ} {t r : List ℕ} {i : ℕ} {sh : Extent} → HalfReady h t r i sh → (get_or t (owned_at i) 0 ≡ 0 → ⊥)
    → TextureHeld (numbers_of t) h t r i sh
half_held {h} {t} {r} {i} s own = let o = word_owned t i own in texture_held s.measured s.texture (s.texture.own o) (s.held o)

-- both halves of a tracker's texture
pub record BothReady (t s e : List ℕ) (i : ℕ) (sh : Extent) : Type 0 where
  pub start : HalfReady start_half t s i sh
  pub end : HalfReady end_half t e i sh

-- ---- While other textures change: the head and the table's length stay
pub record HeadStays (t t₁ : List ℕ) : Type 0 where
  pub words : (x : ℕ) → x < head_length → get_or t₁ x 0 ≡ get_or t x 0
  pub long : length t₁ ≡ length t

-- by a scope's frame
pub scope_keeps : {named : ℕ → Type 0} {d : Numbers} {t r t₁ r₁ : List ℕ} → ScopeFrame named d t r t₁ r₁ → HeadStays t t₁
scope_keeps f = record { words = scope_head f; long = f.words.long }

-- by a tracker's
pub tracker_keeps : {named : ℕ → Type 0} {d : Numbers} {t s e t₁ s₁ e₁ : List ℕ} → TrackerFrame named d t s e t₁ s₁ e₁ → HeadStays t t₁
tracker_keeps f = record { words = tracker_head f; long = f.words.long }

module _ {t t₁ : List ℕ} (q : HeadStays t t₁) where
  -- N, M, W and the flags
  pub numbers_stay : numbers_of t₁ ≡ numbers_of t
  numbers_stay = rw (q.words textures_at (omega arith), q.words mip_limit_at (omega arith), q.words layer_limit_at (omega arith))

  pub flags_stay : flags_of t₁ ≡ flags_of t
  flags_stay = rw (
    q.words exclusive_at (omega arith),
    q.words uninitialized_at (omega arith),
    q.words complex_at (omega arith),
    q.words unknown_at (omega arith),
  )

  -- what is measured, by N, M and W as they were and as they are
  module _ {h : ℕ} {r r₁ : List ℕ} (long : length r₁ ≡ length r) (m : Measured (numbers_of t) h t r) where
    pub measured_kept : Measured (numbers_of t) h t₁ r₁
    measured_kept = record {
      dims = numbers_stay;
      textures = m.textures;
      mips = m.mips;
      some = m.some;
      layers = m.layers;
      fits = rw long m.fits;
      half = m.half;
      table = q.long ∙ m.table;
    }

    pub measured_stays : Measured (numbers_of t₁) h t₁ r₁
    measured_stays = subst (λ (n : Numbers). Measured n h t₁ r₁) (sym numbers_stay) measured_kept

  -- texture i of any set, where it reads as before: the checks pass, and what it holds fits
  module _ {H : Type 0} (held held₁ : ℕ → H) (i : ℕ) (slot : slot_with held₁ t₁ i ≡ slot_with held t i) where
    passed_stays : {sh : Extent} → TexturePassed t i sh → TexturePassed t₁ i sh
    passed_stays x = record {
      texture = rw (q.words textures_at (omega arith)) x.texture;
      mip = x.mip;
      top = rw (q.words mip_limit_at (omega arith)) x.top;
      some = x.some;
      low = rw (q.words layer_limit_at (omega arith)) x.low;
      own = λ o. ap (λ (y : Slot H). y.extent) slot ∙ x.own (sym (ap (λ (y : Slot H). y.owned) slot) ∙ o);
    }

    fits_stays : (P : UsageFlags → Extent → H → Type 0) → SlotFits P (numbers_of t) (flags_of t) (slot_with held t i)
        → SlotFits P (numbers_of t₁) (flags_of t₁) (slot_with held₁ t₁ i)
    fits_stays P f =
        subst (λ (n : Numbers). SlotFits P n (flags_of t₁) (slot_with held₁ t₁ i)) (sym numbers_stay)
        (subst (λ (p : UsageFlags). SlotFits P (numbers_of t) p (slot_with held₁ t₁ i)) (sym flags_stay)
        (subst (SlotFits P (numbers_of t) (flags_of t)) (sym slot) f))

-- so it is ready still: of a scope
pub scope_still : {named : ℕ → Type 0} {d : Numbers} {t r t₁ r₁ : List ℕ} {i : ℕ} {sh : Extent} → ScopeTested t r → TexturePassed t i sh
    → ScopeFrame named d t r t₁ r₁ → scope_slot t₁ r₁ i ≡ scope_slot t r i → HalfReady start_half t₁ r₁ i sh
scope_still {t = t} {r} {t₁} {r₁} {i} k x frame slot =
    let q = scope_keeps frame in
    let held = held_of (numbers_of t) start_half t r in let held₁ = held_of (numbers_of t₁) start_half t₁ r₁ in
    let f = fits_stays q held held₁ i slot HeldFits (k.slots i x.texture) in
    record {
      measured = measured_stays q frame.ranges.long k.measured;
      texture = passed_stays q held held₁ i slot x;
      held = λ o. half_fits start_half t₁ r₁ i (f.extent o).mips (f.held o);
    }

-- and of a tracker; what it holds is read by N, M and W as they were
pub tracker_still : {named : ℕ → Type 0} {d : Numbers} {t s e t₁ s₁ e₁ : List ℕ} {i : ℕ} {sh : Extent} → TrackerTested t s e
    → TexturePassed t i sh → TrackerFrame named d t s e t₁ s₁ e₁ → slot_with (ends_of (numbers_of t) t₁ s₁ e₁) t₁ i ≡ tracker_slot t s e i
    → BothReady t₁ s₁ e₁ i sh
tracker_still {t = t} {s} {e} {t₁} {s₁} {e₁} {i} k x frame slot =
    let q = tracker_keeps frame in let held = ends_of (numbers_of t) t s e in let held₁ = ends_of (numbers_of t₁) t₁ s₁ e₁ in
    let now : tracker_slot t₁ s₁ e₁ i ≡ tracker_slot t s e i =
    subst (λ (n : Numbers). slot_with (ends_of n t₁ s₁ e₁) t₁ i ≡ tracker_slot t s e i) (sym (numbers_stay q)) slot in
    let f = fits_stays q held held₁ i now EndsFit (k.slots i x.texture) in let y = passed_stays q held held₁ i now x in
    record {
      start = record {
        measured = measured_stays q frame.starts.long k.starts;
        texture = y;
        held = λ o. half_fits start_half t₁ s₁ i (f.extent o).mips (f.held o).start;
      };
      end = record {
        measured = measured_stays q frame.ends.long k.ends;
        texture = y;
        held = λ o. half_fits end_half t₁ e₁ i (f.extent o).mips (f.held o).end;
      };
    }

-- ---- A set that passed the test, as it is
pub scope_texture : {t r : List ℕ} {i : ℕ} {sh : Extent} → ScopeTested t r → TexturePassed t i sh → HalfReady start_half t r i sh
scope_texture {t} {r} {i} k x = scope_still {named = Only i} {d = numbers_of t} k x (keeps_refl t r) refl

pub tracker_texture : {t s e : List ℕ} {i : ℕ} {sh : Extent} → TrackerTested t s e → TexturePassed t i sh → BothReady t s e i sh
tracker_texture {t} {s} {e} {i} k x = tracker_still {named = Only i} {d = numbers_of t} k x (both_refl t s e) refl
