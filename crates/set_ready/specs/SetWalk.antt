-- A walk over the slots of a set as it is lent: the view at its end; and of a tracker, that a slot which is left is ready as it was.
use Rattle.model.specs.Prelude.{ℕ, arith, ap, subst, ◌∙◌, List, get_or}
use Rattle.model.specs.{declared.Extent.Extent, Representation.Ends, Sets.{Numbers, Slot, with_tracker}, Texture.Held}
use Rattle.std.specs.Prelude.{◌<◌, ◌≡◌}
use Rattle.set_storage.specs.Storage.{numbers_of, flags_of, start_half, ends_of, slot_with, set_with, tracker_of, list_from, mask_at}
use Rattle.set_storage.specs.{Storage.{textures_at, tracker_slot}, Stays.{both_refl, both_then, both_more, TrackerFrame}, Frames.Measured}
use Rattle.set_storage.specs.Slots.{tracker_other}
use Rattle.set_checks.specs.Passed.{TexturePassed}
use Rattle.set_ready.specs.{Tested.TrackerTested, Half.{HeadStays, BothReady, tracker_keeps, numbers_stay, flags_stay, tracker_still}}
use Rattle.set_ready.specs.Walked.{Walked, walked_start}

-- the view of a set whose head stays: its slots as they are now
pub set_view : {H : Type 0} (held : ℕ → H) {t t₁ : List ℕ} → HeadStays t t₁
    → set_with held t₁ ≡ record
    { numbers = numbers_of t; flags = flags_of t; slots = list_from (slot_with held t₁) 0 (get_or t textures_at 0) }
set_view held q = rw (numbers_stay q, flags_stay q, q.words textures_at (omega arith))

-- the slots of the table t₁ with the ranges s₁ and e₁, read by the N, M and W of t
abbrev pub slots_by : List ℕ → List ℕ → List ℕ → List ℕ → ℕ → Slot (Ends Held)
slots_by t t₁ s₁ e₁ = slot_with (ends_of (numbers_of t) t₁ s₁ e₁) t₁

-- they are walked over, and what is of no named index stays
pub record TrackerWalked (named : ℕ → Type 0) (t s e : List ℕ) (R : ℕ → Slot (Ends Held) → Slot (Ends Held) → Type 0) (left : ℕ → Type 0)
    (t₁ s₁ e₁ : List ℕ) : Type 0 where
  pub slots : Walked (get_or t textures_at 0) R (tracker_slot t s e) left (slots_by t t₁ s₁ e₁)
  pub frame : TrackerFrame named (numbers_of t) t s e t₁ s₁ e₁

module _ {named : ℕ → Type 0} {t s e : List ℕ} {R : ℕ → Slot (Ends Held) → Slot (Ends Held) → Type 0} {left : ℕ → Type 0} where
  -- nothing changed yet
  pub tracker_start : ((j : ℕ) → (left j → ⊥) → R j (tracker_slot t s e j) (tracker_slot t s e j)) → TrackerWalked named t s e R left t s e
  tracker_start d = record { slots = walked_start d; frame = both_refl t s e }

  module _ {t₁ s₁ e₁ : List ℕ} (q : TrackerWalked named t s e R left t₁ s₁ e₁) where
    -- a slot that is left is ready
    pub left_ready : {k : ℕ} {sh : Extent} → TrackerTested t s e → TexturePassed t k sh → left k → BothReady t₁ s₁ e₁ k sh
    left_ready {k} w x l = tracker_still w x q.frame (q.slots.same k x.texture l)

    -- slot k changes, and no other: whatever turn that is of the walk
    pub tracker_turn : {turned next : ℕ → Type 0} {k : ℕ} {t₂ s₂ e₂ : List ℕ} → Measured (numbers_of t) start_half t s
        → ((j : ℕ) → turned j → (j ≡ k) × named j) → TrackerFrame turned (numbers_of t₁) t₁ s₁ e₁ t₂ s₂ e₂
        → (((j : ℕ) → j < get_or t textures_at 0 → (j ≡ k → ⊥) → slots_by t t₂ s₂ e₂ j ≡ slots_by t t₁ s₁ e₁ j)
        → Walked (get_or t textures_at 0) R (tracker_slot t s e) next (slots_by t t₂ s₂ e₂)) → TrackerWalked named t s e R next t₂ s₂ e₂
    tracker_turn {turned} {t₂ = t₂} {s₂} {e₂} m n z turn =
        let f = subst (λ (d : Numbers). TrackerFrame turned d t₁ s₁ e₁ t₂ s₂ e₂) (numbers_stay (tracker_keeps q.frame)) z in record {
          slots = turn (λ j a ne. tracker_other m.textures m.mips f j a (λ y. ne (n j y).0));
          frame = both_then q.frame (both_more (λ j y. (n j y).1) (λ j x o. o) f);
        }

-- THE VIEW
pub walked_view : {named : ℕ → Type 0} {t s e t₁ s₁ e₁ : List ℕ} → TrackerFrame named (numbers_of t) t s e t₁ s₁ e₁
    → tracker_of t₁ s₁ e₁ ≡ with_tracker (tracker_of t s e) (list_from (slots_by t t₁ s₁ e₁) 0 (get_or t textures_at 0))
unfolding tracker_of
walked_view {t = t} {t₁ = t₁} {s₁} {e₁} f =
    let q = tracker_keeps f in
    let set = ap (λ (d : Numbers). set_with (ends_of d t₁ s₁ e₁) t₁) (numbers_stay q) ∙ set_view (ends_of (numbers_of t) t₁ s₁ e₁) q in
    rw (q.words mask_at (omega arith), set)
