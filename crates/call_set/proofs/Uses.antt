-- `set_checked` and `set_single_lem`: from what the code found, wrote and changed to the contract.
use Rattle.model.specs.Prelude.{ℕ, refl, sym, ap, subst, ◌∙◌, Bool, true, Option, None, Some, List, length, get_or, set, Ok, Err}
use Rattle.model.specs.declared.{Extent.Extent, InvalidUse.InvalidUse, LogHead.LogHead, Selector.Selector, UsageFlags.UsageFlags}
use Rattle.model.specs.{declared.Refusal.Refusal, Representation.Ends, WellFormed.{tracker_fits, well_formed_tracker}}
use Rattle.model.specs.{Sets.{capacity, Head, Slot, Tracker, slot_at, empty_slot, with_tracker}, Refusals.single_refusal}
use Rattle.model.specs.{Calls.{CallResult, done, unless, set_slot, log_slot, set_single, no_ends}, Log.{pending, Answered}}
use Rattle.model.specs.{Texture.{Held, Given, Entry, from_use, ranged}, BoolLaws.and_left}
use Rattle.std.specs.Prelude.{◌/◌, ◌≤◌, ◌<◌, ◌≡◌}
use Rattle.agreement.proofs.{LogRoom.entries_written, EachCall.set_single_room}
use Rattle.set_storage.specs.{Lists.list_at, Storage.{numbers_of, flags_of, tracker_of, mask_at, textures_at, tracker_slot}}
use Rattle.set_storage.specs.{Stays.{Only, both_more}, Uses.use_of}
use Rattle.set_checks.specs.{Head.{use_refusal, tracker_head, UseTold}, Passed.{use_passed, texture_passed, state_passed}}
use Rattle.set_ready.specs.{Tested.TrackerTested, Half.{BothReady, tracker_texture}, Checked.TakenUse}
use Rattle.set_ready.specs.Parts.{part_named, part_use, part_within}
use Rattle.texture_track.specs.{Tracked.{Same, Tracked, Changes, away_own, changes_tracked}, Slot.{SlotSet, tracker_view, slot_pending}}
use Rattle.call_set.specs.Used.{used_entries, used_tracker}
use Rattle.log_head.specs.{Log.{head_within, refused_with}, Called.Changed}

-- ---- `set_checked`
module _ (t s e : List ℕ) (i : ℕ) (sh : Extent) (g : Given) where
  -- the texture changed
  pub used : {h : LogHead} {l l' : List ℕ} {x : Answered} {t' s' e' : List ℕ} → BothReady t s e i sh
      → SlotSet (Only i) t s e i (set_slot ranged (flags_of t) sh g g (tracker_slot t s e i)) t' s' e'
      → (tracker_of t' s' e' ≡ used_tracker t s e i sh g
      → Changed (tracker_of t s e) (tracker_of t' s' e') (Same t s e t' s' e') (used_entries t e i sh g)
      (used_tracker t s e i sh g) h l x l')
      → Changes (Only i) (used_entries t e i sh g) (used_tracker t s e i sh g) h t s e l x t' s' e' l'
  used x q c = record {
    change = c (tracker_view x.start.measured q);
    frame = both_more (λ j n. (subst (λ (y : ℕ). y < get_or t textures_at 0) (sym n) x.start.texture.texture, n)) (λ j y o. o) q.frame;
  }

-- ---- `set_single_lem`
module _ (t s e : List ℕ) (i : ℕ) (sh : Extent) (q : Selector) (st : ℕ) where
  abbrev TrackerResult : Type 0
  TrackerResult = CallResult InvalidUse (List Entry) (Tracker Held)

  -- what the model's call gives where no check fails, of a tracker with flags p and this slot
  abbrev passing : UsageFlags → ℕ → Slot (Ends Held) → TrackerResult
  passing p mask x = record {
    answer = done;
    log = log_slot ranged p mask sh (from_use sh (Some q) st) i x;
    after = with_tracker (tracker_of t s e)
        (set (tracker_of t s e).set.slots i (set_slot ranged p sh (from_use sh (Some q) st) (from_use sh (Some q) st) x));
  }

  call_is : (o : Option Refusal) → use_refusal t i sh (Some q) st ≡ o
      → set_single ranged (tracker_of t s e) i sh q st
      ≡ unless o (tracker_of t s e) (passing (tracker_of t s e).set.flags (tracker_of t s e).mask
      (slot_at (no_ends ranged) (tracker_of t s e).set i))
  unfolding use_refusal
  call_is o z =
      ap (λ (h : Head). unless (single_refusal h i sh (Some q) st) (tracker_of t s e)
      (passing (tracker_of t s e).set.flags (tracker_of t s e).mask (slot_at (no_ends ranged) (tracker_of t s e).set i)))
      (tracker_head t s e)
      ∙ ap (λ (y : Option Refusal). unless y (tracker_of t s e) (passing (tracker_of t s e).set.flags (tracker_of t s e).mask
      (slot_at (no_ends ranged) (tracker_of t s e).set i))) z

  read_here : i < get_or t textures_at 0
      → passing (tracker_of t s e).set.flags (tracker_of t s e).mask (slot_at (no_ends ranged) (tracker_of t s e).set i)
      ≡ passing (flags_of t) (get_or t mask_at 0) (tracker_slot t s e i)
  unfolding tracker_of
  read_here h = ap (passing (flags_of t) (get_or t mask_at 0)) (list_at (tracker_slot t s e) (get_or t textures_at 0) i
      (empty_slot (no_ends ranged)) h)

module _ {t s e : List ℕ} {i : ℕ} {sh : Extent} {q : Selector} {st : ℕ} {fits : Bool} {h : LogHead} {l : List ℕ} (f : fits ≡ true)
    (k : head_within (length l / 7) h ≡ true) where
  pub single_away : {r : Refusal} → UseTold t i sh (Some q) st (Err r)
      → Tracked (Only i) fits (set_single ranged (tracker_of t s e) i sh q st) h t s e l (refused_with r h) t s e l
  single_away {r} z = away_own r f k (ap (λ (y : CallResult InvalidUse (List Entry) (Tracker Held)). y.answer)
      (call_is t s e i sh q st (Some r) z.is))

  pub single_done : {x : Answered} {t' s' e' l' : List ℕ} (g : Given) → UseTold t i sh (Some q) st (Ok tt)
      → from_use sh (Some q) st ≡ g → Changes (Only i) (used_entries t e i sh g) (used_tracker t s e i sh g) h t s e l x t' s' e' l'
      → Tracked (Only i) fits (set_single ranged (tracker_of t s e) i sh q st) h t s e l x t' s' e' l'
  single_done {x} {t'} {s'} {e'} {l'} g z w c =
      let n = z.is in
      let m : set_single ranged (tracker_of t s e) i sh q st
      ≡ passing t s e i sh q st (flags_of t) (get_or t mask_at 0) (tracker_slot t s e i) =
      call_is t s e i sh q st None n ∙ read_here t s e i sh q st (texture_passed t i sh (use_passed t i sh (Some q) st n).0).texture in
      let d : Changes (Only i) (used_entries t e i sh (from_use sh (Some q) st)) (used_tracker t s e i sh (from_use sh (Some q) st)) h t
      s e l x t' s' e' l' = rw w c in
      subst (λ (y : CallResult InvalidUse (List Entry) (Tracker Held)). Tracked (Only i) fits y h t s e l x t' s' e' l') (sym m)
      (changes_tracked f k refl
      (rw (slot_pending (flags_of t) (get_or t mask_at 0) sh (from_use sh (Some q) st) i (tracker_slot t s e i)) d))

-- no more entries than the tracker has subresources
pub single_few : (t s e : List ℕ) {i : ℕ} {sh : Extent} {q : Selector} {st : ℕ} (room : ℕ) (room₂ : ℕ)
    → well_formed_tracker room room₂ (tracker_of t s e) ≡ true → st < 65536 → UseTold t i sh (Some q) st (Ok tt)
    → (g : Given) → from_use sh (Some q) st ≡ g
    → length (used_entries t e i sh g) ≤ capacity (numbers_of t)
unfolding tracker_of
single_few t s e {i} {sh} {q} {st} room room₂ f b z g w =
    let n = z.is in
    let m : set_single ranged (tracker_of t s e) i sh q st
    ≡ passing t s e i sh q st (flags_of t) (get_or t mask_at 0) (tracker_slot t s e i) =
    call_is t s e i sh q st None n ∙ read_here t s e i sh q st (texture_passed t i sh (use_passed t i sh (Some q) st n).0).texture in
    let d = set_single_room (tracker_of t s e) (and_left (tracker_fits (tracker_of t s e)) _ (and_left _ _ f)) i sh q st b in
    let k : length (pending (set_single ranged (tracker_of t s e) i sh q st).log) ≤ capacity (numbers_of t) =
    rw (entries_written (set_single ranged (tracker_of t s e) i sh q st).log) d in
    rw (m, slot_pending (flags_of t) (get_or t mask_at 0) sh (from_use sh (Some q) st) i (tracker_slot t s e i), w) at k

-- ---- What one texture asks for
module _ {t : List ℕ} {i : ℕ} {sh : Extent} {q : Selector} {st : ℕ} (z : UseTold t i sh (Some q) st (Ok tt)) where
  pub single_ready : {s e : List ℕ} → TrackerTested t s e → BothReady t s e i sh
  single_ready k = tracker_texture k (texture_passed t i sh (use_passed t i sh (Some q) st z.is).0)

  pub single_use : {part : Option Selector} → part ≡ part_named sh (Some q) → TakenUse t sh part (flags_of t) st
  single_use y =
      let a = use_passed t i sh (Some q) st z.is in
      record { flags = refl; within = rw y (part_within sh (Some q) a.1.0); state = state_passed (flags_of t) st a.1.1 }

-- what is set is what the selector names
pub as_use_lem : (sh : Extent) (q : Selector) (st : ℕ) {part : Option Selector} → part ≡ part_named sh (Some q)
    → from_use sh (Some q) st ≡ use_of part st
as_use_lem sh q st e = rw e (part_use sh (Some q) st)
