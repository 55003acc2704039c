-- One texture of a tracker: the contracts of its change and of its transitions.
use Rattle.model.specs.Prelude.{ℕ, arith, refl, subst, Bool, true, false, List, [], append-nil, get_or, set, ne_eqb, eq-eqb}
use Rattle.model.specs.{declared.{UsageFlags.UsageFlags, Extent.Extent}, Representation.Ends, Sets.{Numbers, Slot, with_tracker}}
use Rattle.model.specs.{Calls.{set_slot, log_slot}, Log.pending, Texture.{Held, Given, Entry, insert, update, barrier, ranged}}
use Rattle.std.specs.Prelude.{◌≡◌, ◌∷◌, if◌then◌else◌}
use Rattle.set_storage.specs.Storage.{numbers_of, start_half, end_half, ends_of, slot_with, tracker_of, mask_at, owned_at, tracker_slot}
use Rattle.set_storage.specs.{Frames.Measured, Stays.{Only, both_refl, both_then, both_more, TrackerFrame}}
use Rattle.set_storage.specs.Slots.{HalfBecomes, own_words, tracker_own, tracker_both, tracker_slots}
use Rattle.texture_update.specs.Both.{BothBecome, low_of, start_then_end}
use Rattle.texture_barrier.specs.Entries.{entries_at}
use Rattle.set_ready.specs.Half.{BothReady, half_held}
use Rattle.set_ready.specs.Owned.{own_numbers, own_textured, now_owned, end_numbers, owned_reads, slot_becomes}

-- THE CONTRACT of its change: texture i becomes x, and all that is lent stays but what is of a named index: i, or none
pub record SlotSet (named : ℕ → Type 0) (t s e : List ℕ) (i : ℕ) (x : Slot (Ends Held)) (t' s' e' : List ℕ) : Type 0 where
  pub slot : slot_with (ends_of (numbers_of t) t' s' e') t' i ≡ x
  pub frame : TrackerFrame named (numbers_of t) t s e t' s' e'

module _ {t s e : List ℕ} {i : ℕ} {sh : Extent} (q : BothReady t s e i sh) (p : UsageFlags) (from to : Given) where
  -- an unowned texture is owned, and then `insert` of its start and of its end
  pub tracker_new : {t₁ s' t' e' : List ℕ} → get_or t (owned_at i) 0 ≡ 0
      → HalfBecomes (numbers_of (own_words t i sh)) start_half i (insert p sh from) (own_words t i sh) s t₁ s'
      → HalfBecomes (numbers_of t₁) end_half i (insert p sh to) t₁ e t' e'
      → SlotSet (Only i) t s e i (set_slot ranged p sh from to (tracker_slot t s e i)) t' s' e'
  tracker_new {t₁} {s'} {t'} {e'} free a b =
      let m = q.start.measured in let x = own_textured q.start in let y = (own_textured q.end).measured in
      let a₁ = subst (λ (n : Numbers). HalfBecomes n start_half i (insert p sh from) (own_words t i sh) s t₁ s') (own_numbers q.start) a in
      let b₁ = subst (λ (n : Numbers). HalfBecomes n end_half i (insert p sh to) t₁ e t' e') (end_numbers q a.frame) b in
      let c = start_then_end x.measured y x.index a₁ b₁ in
      rw (eq-eqb (get_or t (owned_at i) 0) 0 free) (record {
        slot = owned_reads (ends_of (numbers_of t) t' s' e') t' (record { start = insert p sh from; end = insert p sh to }) x
            (now_owned q.start) (low_of x.measured y x.index c.frame) c.ends;
        frame = both_then (tracker_own (numbers_of t) t i sh m.textures m.mips x.index s e) (tracker_both c.frame);
      })

  -- an owned one: `update`
  pub tracker_old : {t' s' e' : List ℕ} → (get_or t (owned_at i) 0 ≡ 0 → ⊥)
      → BothBecome (numbers_of t) i (update p sh (ends_of (numbers_of t) t s e i) to) t s e t' s' e'
      → SlotSet (Only i) t s e i (set_slot ranged p sh from to (tracker_slot t s e i)) t' s' e'
  tracker_old {t'} {s'} {e'} own b =
      let held = ends_of (numbers_of t) in
      rw (ne_eqb (get_or t (owned_at i) 0) 0 own) (record {
        slot = owned_reads (held t' s' e') t' (update p sh (held t s e i) to) (half_held q.start own).ready own
            (low_of q.start.measured q.end.measured q.start.texture.texture b.frame) b.ends;
        frame = tracker_both b.frame;
      })

-- a texture that stays as it is
pub tracker_kept : {named : ℕ → Type 0} (t s e : List ℕ) (i : ℕ) → SlotSet named t s e i (tracker_slot t s e i) t s e
tracker_kept t s e i = record { slot = refl; frame = both_refl t s e }

-- more may be named
pub tracker_named : {named more : ℕ → Type 0} {t s e t' s' e' : List ℕ} {i : ℕ} {x : Slot (Ends Held)} → ((j : ℕ) → named j → more j)
    → SlotSet named t s e i x t' s' e' → SlotSet more t s e i x t' s' e'
tracker_named n q = record { slot = q.slot; frame = both_more n (λ j y o. o) q.frame }

-- THE VIEW after it
pub tracker_view : {t s e t' s' e' : List ℕ} {i : ℕ} {x : Slot (Ends Held)} → Measured (numbers_of t) start_half t s
    → SlotSet (Only i) t s e i x t' s' e' → tracker_of t' s' e' ≡ with_tracker (tracker_of t s e) (set (tracker_of t s e).set.slots i x)
unfolding tracker_of
tracker_view {t} {s} {e} {t'} {s'} {e'} m q =
    let f = tracker_slots m.textures m.mips q.frame in
    rw (f.head mask_at (omega arith), slot_becomes (λ n. ends_of n t s e) (λ n. ends_of n t' s' e') f q.slot)

-- ---- Its transitions: none where it is not owned
abbrev pub slot_entries : UsageFlags → ℕ → Extent → Given → Slot (Ends Held) → List Entry
slot_entries p mask sh from x = if x.owned then barrier p mask sh x.held.end from else []

-- they are the model's
pub slot_pending : (p : UsageFlags) (mask : ℕ) (sh : Extent) (from : Given) (i : ℕ) (x : Slot (Ends Held))
    → pending (log_slot ranged p mask sh from i x) ≡ entries_at i (slot_entries p mask sh from x)
slot_pending p mask sh from i x = go x.owned
  where
    go : (b : Bool)
        → pending (if b then record { index = i; what = barrier p mask sh x.held.end from } ∷ [] else [])
        ≡ entries_at i (if b then barrier p mask sh x.held.end from else [])
    go true = append-nil (entries_at i (barrier p mask sh x.held.end from))
    go false = refl
