-- `merge_single`, and any merge that is turned away: from what the code found to the contract.
use Rattle.model.specs.Prelude.{ℕ, refl, sym, ap, subst, ◌∙◌, Bool, true, false, false≢true, Option, None, Some, List, get_or, set, Ok, Err}
use Rattle.model.specs.declared.Refusal.TheVariants.{NotWellFormed}
use Rattle.model.specs.declared.{UsageFlags.UsageFlags, Extent.Extent, InvalidUse.InvalidUse, Refusal.Refusal, Selector.Selector}
use Rattle.model.specs.{declared.CallError.TheVariants.Refused, Base.Stop, Sets.{Slot, Set, Head, slot_at, with_slots, empty_slot}}
use Rattle.model.specs.{Refusals.{first_failing, single_refusal}, CheckLaws.StatePassed}
use Rattle.model.specs.Calls.{Indexed, CallResult, answer, turned_away, unless, merge_slot, merge_single}
use Rattle.model.specs.{Log.{Outcome, is_refused, outcome_of, merging}, Texture.{Held, single, Entry, from_use, ranged}}
use Rattle.std.specs.Prelude.{◌<◌, ◌≡◌}
use Rattle.set_storage.specs.{Storage.{flags_of, scope_of, start_half, textures_at, scope_slot}, Stays.{Only, keeps_refl, keeps_more}}
use Rattle.set_storage.specs.Lists.{list_at}
use Rattle.texture_merge.specs.Walks.{Stopped}
use Rattle.set_checks.specs.{Head.{use_refusal, scope_head, UseTold}, Passed.{use_passed, texture_passed, state_passed}}
use Rattle.set_ready.specs.{Tested.ScopeTested, Half.{HalfReady, scope_texture}, Named.Within, Checked.TakenUse}
use Rattle.set_ready.specs.Parts.{part_named, part_within}
use Rattle.call_merge.specs.{Met.told_of, Merged.Merged, Slot.{SlotMerged, scope_view}, Scope.SlotsMerged}

-- ---- The test of the sets comes first
abbrev pub ScopeResult : Type 0
ScopeResult = CallResult InvalidUse (List Entry) (Set Held)

-- turned away: nothing was written
unwritten : {named : ℕ → Type 0} {fits : Bool} {m : ScopeResult} {t r : List ℕ} (x : Refusal)
    → merging fits (scope_of t r) m ≡ turned_away x (scope_of t r) → Merged named fits m t r (Err (Refused x)) t r
unwritten {named} {fits} {m} {t} {r} x e = record {
  answer = ap (λ (c : ScopeResult). outcome_of c.answer) (sym e);
  view = ap (λ (c : ScopeResult). c.after) (sym e);
  kept = λ z. (refl, refl);
  stays = keeps_refl t r;
}

pub not_fitting : {named : ℕ → Type 0} {fits : Bool} {m : ScopeResult} {t r : List ℕ} → fits ≡ false
    → Merged named fits m t r (Err (Refused NotWellFormed)) t r
unfolding merging first_failing
not_fitting e = unwritten NotWellFormed (rw e)

pub away : {named : ℕ → Type 0} {fits : Bool} {m : ScopeResult} {t r : List ℕ} (x : Refusal) → fits ≡ true
    → m ≡ turned_away x (scope_of t r) → Merged named fits m t r (Err (Refused x)) t r
unfolding merging first_failing
away x e z = unwritten x (rw e z)

-- ---- No check turned it away: what the walk w met, and the textures that it left
abbrev pub walked : List ℕ → List ℕ → Stop (Indexed InvalidUse) (List (Slot Held)) → ScopeResult
walked t r w = record { answer = answer w.conflict; log = mathlib.Core.List.[]; after = with_slots (scope_of t r) w.value }

-- its answer is no refusal
walk_on : (o : Option (Indexed InvalidUse)) → is_refused (outcome_of (answer o)) ≡ true → ⊥
walk_on None e = false≢true e
walk_on (Some c) e = false≢true e

pub went : {named : ℕ → Type 0} {fits : Bool} {m : ScopeResult} {t r : List ℕ} {x : Outcome} {t' r' : List ℕ}
    (w : Stop (Indexed InvalidUse) (List (Slot Held))) → fits ≡ true → m ≡ walked t r w
    → SlotsMerged (Within t named) w t r x t' r' → Merged named fits m t r x t' r'
unfolding merging first_failing
went {named} {fits} {m} {t} {r} w e z q =
    let c : merging fits (scope_of t r) m ≡ walked t r w = rw e z in
    record {
      answer = q.answer ∙ ap (λ (y : ScopeResult). outcome_of y.answer) (sym c);
      view = q.view ∙ ap (λ (y : ScopeResult). y.after) (sym c);
      kept = λ k. absurd (walk_on w.conflict (subst (λ (y : Outcome). is_refused y ≡ true) q.answer k));
      stays = q.frame;
    }

-- ---- `merge_single`
module _ (t r : List ℕ) (i : ℕ) (sh : Extent) (s : Option Selector) (st : ℕ) where
  -- the walk over texture i alone, by the flags p and from the slot y
  abbrev one_merged : UsageFlags → Slot Held → Stop (Indexed InvalidUse) (List (Slot Held))
  one_merged p y =
      let v = merge_slot ranged p sh (from_use sh s st) i y in
      record { value = set (scope_of t r).slots i v.value; conflict = v.conflict }

  call_is : (o : Option Refusal) → use_refusal t i sh s st ≡ o
      → merge_single ranged (scope_of t r) i sh s st
      ≡ unless o (scope_of t r) (walked t r (one_merged (scope_of t r).flags (slot_at (single 0) (scope_of t r) i)))
  unfolding use_refusal
  call_is o e =
      let done = walked t r (one_merged (scope_of t r).flags (slot_at (single 0) (scope_of t r) i)) in
      ap (λ (h : Head). unless (single_refusal h i sh s st) (scope_of t r) done) (scope_head t r)
      ∙ ap (λ (q : Option Refusal). unless q (scope_of t r) done) e

  merged_is : i < get_or t textures_at 0 → UseTold t i sh s st (Ok tt)
      → merge_single ranged (scope_of t r) i sh s st ≡ walked t r (one_merged (flags_of t) (scope_slot t r i))
  unfolding scope_of
  merged_is h z =
      let e = list_at (scope_slot t r) (get_or t textures_at 0) i (empty_slot (single 0)) h in
      call_is None z.is ∙ ap (λ (y : Slot Held). walked t r (one_merged (flags_of t) y)) e

module _ {t r : List ℕ} {i : ℕ} {sh : Extent} {s : Option Selector} {st : ℕ} {fits : Bool} (e : fits ≡ true) where
  pub single_away : {x : Refusal} → UseTold t i sh s st (Err x)
      → Merged (Only i) fits (merge_single ranged (scope_of t r) i sh s st) t r (Err (Refused x)) t r
  single_away {x} z = away x e (call_is t r i sh s st (Some x) z.is)

  pub single_done : {x : Stopped} {t' r' : List ℕ} → ScopeTested t r → UseTold t i sh s st (Ok tt)
      → SlotMerged (Only i) t r i (merge_slot ranged (flags_of t) sh (from_use sh s st) i (scope_slot t r i)) x t' r'
      → Merged (Only i) fits (merge_single ranged (scope_of t r) i sh s st) t r (told_of i x) t' r'
  single_done {x} {t'} {r'} k z q =
      let h : i < get_or t textures_at 0 = (texture_passed t i sh (use_passed t i sh s st z.is).0).texture in
      went (one_merged t r i sh s st (flags_of t) (scope_slot t r i)) e (merged_is t r i sh s st h z) (record {
        answer = ap (λ (o : Option (Indexed InvalidUse)). outcome_of (answer o)) q.conflict;
        view = scope_view k.measured q;
        frame = keeps_more (λ j n. (subst (λ (k : ℕ). k < get_or t textures_at 0) (sym n) h, n)) (λ j y o. o) q.frame;
      })

-- ---- What the walk over one texture asks for
module _ {t : List ℕ} {i : ℕ} {sh : Extent} {s : Option Selector} {st : ℕ} (z : UseTold t i sh s st (Ok tt)) where
  pub single_ready : {r : List ℕ} → ScopeTested t r → HalfReady start_half t r i sh
  single_ready k = scope_texture k (texture_passed t i sh (use_passed t i sh s st z.is).0)

  pub single_use : {part : Option Selector} {p : UsageFlags} → part ≡ part_named sh s → p ≡ flags_of t → TakenUse t sh part p st
  single_use {p = p} y e =
      let a = use_passed t i sh s st z.is in
      record {
        flags = e;
        within = rw y (part_within sh s a.1.0);
        state = subst (λ (f : UsageFlags). StatePassed f st) (sym e) (state_passed (flags_of t) st a.1.1);
      }
