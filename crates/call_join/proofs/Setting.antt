-- `set_slots`: turn by turn the next slot becomes the model's, and at the end the view is.
use Rattle.std.specs.Prelude.{◌+◌, ◌≤◌, ◌<◌, ◌≡◌}
use Rattle.model.specs.Prelude.{ℕ, arith, sym, ap, subst, ◌∙◌, List, get_or}
use Rattle.model.specs.{declared.UsageFlags.UsageFlags, Representation.Ends, Sets.{Numbers, Slot, with_tracker}, Calls.set_given}
use Rattle.model.specs.Texture.{Held, ranged}
use Rattle.set_storage.specs.{Storage.{flags_of, ends_of, slot_with, tracker_of, textures_at, tracker_slot}, Stays.{OnlyOwned, OwnedBy}}
use Rattle.set_ready.specs.{Named.Within, Half.{HeadStays, tracker_keeps, numbers_stay, flags_stay}, Walked.{walked_next, over_end}}
use Rattle.set_ready.specs.SetWalk.{slots_by, TrackerWalked, tracker_start, left_ready, tracker_turn, walked_view}
use Rattle.texture_track.specs.{Slot.SlotSet, GivenSlot.{SetsAt, pair_of, pass_start, pass_end, slot_after}}
use Rattle.call_join.specs.Join.{Joins, SetsAll, start_given, end_given}

-- a rule for slots
abbrev Rule : Type 0
Rule = ℕ → Slot (Ends Held) → Slot (Ends Held)

-- as the loop has it: the slots below k are what f makes of them, the others as they were
abbrev pub Setting : (ℕ → Type 0) → List ℕ → List ℕ → List ℕ → Rule → ℕ → List ℕ → List ℕ → List ℕ → Type 0
Setting named t s e f k = TrackerWalked named t s e (λ j x y. y ≡ f j x) (λ j. k ≤ j)

-- at the start
pub setting_start : {named : ℕ → Type 0} (t s e : List ℕ) (f : Rule) → Setting named t s e f 0 t s e
setting_start t s e f = tracker_start (λ j l. absurd (l (omega arith)))

module _ {t s e : List ℕ} {from to : ℕ} {g a b : List ℕ} (w : Joins t s e from to g a b) {f : Rule} {k : ℕ} {t₁ s₁ e₁ : List ℕ}
    (q : Setting (Within t (OwnedBy g)) t s e f k t₁ s₁ e₁) (h : k < get_or g textures_at 0) where
  -- the head stays
  keeps : HeadStays t t₁
  keeps = tracker_keeps q.frame

  -- what the turn at k asks for: the tracker's texture is as it was, and the given one stays
  pub setting_ready : {p : UsageFlags} → p ≡ flags_of t → SetsAt t₁ s₁ e₁ k from to g a b p
  setting_ready z =
      let same = flags_stay keeps in record {
        index = omega (arith, w.given.start.textures);
        ready = λ o. left_ready q w.tracker (w.passed.each k h o) (omega arith);
        given = λ o. record { flags = z ∙ sym same; start = start_given w t₁ same k h o; end = end_given w t₁ same k h o };
      }

  -- the turn
  pub setting_next : {t₂ s₂ e₂ : List ℕ} → SlotSet (OnlyOwned g k) t₁ s₁ e₁ k (f k (tracker_slot t₁ s₁ e₁ k)) t₂ s₂ e₂
      → Setting (Within t (OwnedBy g)) t s e f (k + 1) t₂ s₂ e₂
  setting_next {t₂} {s₂} {e₂} z =
      let here : slots_by t t₂ s₂ e₂ k ≡ f k (slots_by t t₁ s₁ e₁ k) =
      subst (λ (n : Numbers). slot_with (ends_of n t₂ s₂ e₂) t₂ k ≡ f k (slot_with (ends_of n t₁ s₁ e₁) t₁ k)) (numbers_stay keeps)
      z.slot in
      let below : (j : ℕ) → j ≡ k → j < get_or g textures_at 0 = λ j e. subst (λ (y : ℕ). y < get_or g textures_at 0) (sym e) h in
      tracker_turn q w.tracker.starts
      (λ j n. let l = below j n.0 in (n.0, ((w.passed.each j l n.1).texture, (l, n.1))))
      z.frame (λ o. walked_next q.slots o (λ y. here))

-- at the end: THE VIEW
pub setting_end : {t s e : List ℕ} {from to : ℕ} {g a b : List ℕ} {t' s' e' : List ℕ} (p : UsageFlags) (k : ℕ)
    → p ≡ flags_of t → k ≡ get_or g textures_at 0
    → Setting (Within t (OwnedBy g)) t s e (slot_after p from to g a b) k t' s' e' → SetsAll t s e from to g a b t' s' e'
unfolding tracker_of
setting_end {t} {s} {e} {from} {to} {g} {a} {b} {t'} {s'} {e'} p k f n q =
    let P : UsageFlags → ℕ → Type 0 = λ x m. Setting (Within t (OwnedBy g)) t s e (slot_after x from to g a b) m t' s' e' in
    let y : P (flags_of t) (get_or g textures_at 0) = subst (P (flags_of t)) n (subst (λ (x : UsageFlags). P x k) f q) in
    let G = slot_with (pair_of from to g a b) g in let F = set_given ranged pass_start pass_end (flags_of t) in
    let slots = over_end F (tracker_slot t s e) (slots_by t t' s' e') G _ (get_or g textures_at 0) y.slots in
    record { view = walked_view q.frame ∙ ap (with_tracker (tracker_of t s e)) slots; frame = q.frame }
