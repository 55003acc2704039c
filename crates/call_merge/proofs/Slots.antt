-- The walk of `merge_slots` over the textures of a given scope: the scope on the way, what a lap asks for, and what it leaves.
use Rattle.model.specs.Prelude.{ℕ, arith, refl, sym, ap, subst, ◌∙◌, Bool, true, false, Option, None, Some, List, get_or, Err, Ok}
use Rattle.model.specs.{declared.{UsageFlags.UsageFlags, InvalidUse.InvalidUse}, Base.{Stop, fine}, Refusals.tracker_index}
use Rattle.model.specs.declared.CallError.TheVariants.{Conflict}
use Rattle.model.specs.{Sets.{Numbers, Slot}, Calls.{Indexed, answer, merge_given}, Log.outcome_of, Texture.{Held, ranged}}
use Rattle.std.specs.Prelude.{◌+◌, ◌≤◌, ◌<◌, ◌≡◌}
use Rattle.set_storage.specs.Storage.{numbers_of, flags_of, extent_of, owned_of, start_half, held_of, slot_with, scope_of, list_from}
use Rattle.set_storage.specs.{Storage.{textures_at, scope_slot}, Stays.{OnlyOwned, OwnedBy, keeps_refl, keeps_then, keeps_more, ScopeFrame}}
use Rattle.texture_merge.specs.{Walks.Stopped}
use Rattle.set_ready.specs.Given.{HalfGiven, owned_given}
use Rattle.set_ready.specs.Half.{HalfReady, HeadStays, scope_keeps, numbers_stay, flags_stay, measured_stays, scope_still}
use Rattle.set_ready.specs.{Walked.{Walked, walked_start, walked_next, walk_end, walk_stop}, SetWalk.set_view}
use Rattle.call_merge.specs.{Met.{indexed, met_at}, Slot.{OwnedReady, SlotMerged, scope_named, scope_rest}}
use Rattle.call_merge.specs.Scope.{merged_slots, SlotsReady, SlotsMerged}

-- what the given scope makes of texture j, where it met no conflict
abbrev Became : UsageFlags → List ℕ → List ℕ → ℕ → Slot Held → Slot Held → Type 0
Became p g l j x y = merge_given ranged p j x (scope_slot g l j) ≡ fine y

-- ---- THE INVARIANT: the textures below k are done, and the others read as at entry
pub record Merging (p : UsageFlags) (t₀ r₀ g l : List ℕ) (k : ℕ) (t r : List ℕ) : Type 0 where
  pub within : k ≤ get_or g textures_at 0
  pub slots : Walked (get_or t₀ textures_at 0) (Became p g l) (scope_slot t₀ r₀) (λ j. k ≤ j) (scope_slot t r)
  pub frame : ScopeFrame (OwnedBy g) (numbers_of t₀) t₀ r₀ t r

pub start : (p : UsageFlags) (t r g l : List ℕ) → Merging p t r g l 0 t r
start p t r g l = record { within = omega arith; slots = walked_start (λ j l. absurd (l (omega arith))); frame = keeps_refl t r }

-- what a walk gives that leaves these textures, and the view then
walk_gives : {named : ℕ → Type 0} {w : Stop (Indexed InvalidUse) (List (Slot Held))} {o : Option (Indexed InvalidUse)} {t₀ r₀ t r : List ℕ}
    → w ≡ record { value = list_from (scope_slot t r) 0 (get_or t₀ textures_at 0); conflict = o }
    → ScopeFrame named (numbers_of t₀) t₀ r₀ t r
    → SlotsMerged named w t₀ r₀ (outcome_of (answer o)) t r
unfolding scope_of
walk_gives {named} {o = o} {t₀} {r₀} {t} {r} e f =
    subst (λ (w : Stop (Indexed InvalidUse) (List (Slot Held))). SlotsMerged named w t₀ r₀ (outcome_of (answer o)) t r) (sym e)
    (record { answer = refl; view = set_view _ (scope_keeps f); frame = f })

module _ {p : UsageFlags} {t₀ r₀ g l : List ℕ} {k : ℕ} {t r : List ℕ} (m : Merging p t₀ r₀ g l k t r) where
  -- all were walked over
  pub finish : get_or g textures_at 0 ≤ k → SlotsMerged (OwnedBy g) (merged_slots p t₀ r₀ g l) t₀ r₀ (Ok tt) t r
  unfolding scope_of
  finish h =
      let n = get_or t₀ textures_at 0 in let z : k ≡ get_or g textures_at 0 = omega (arith, m.within) in
      let y = subst (λ (i : ℕ). Walked n (Became p g l) (scope_slot t₀ r₀) (λ j. i ≤ j) (scope_slot t r)) z m.slots in
      walk_gives (walk_end (merge_given ranged p) (scope_slot t₀ r₀) (scope_slot t r) (scope_slot g l) n (get_or g textures_at 0) y) m.frame

  module _ (q : SlotsReady t₀ r₀ g l p) (h : k < get_or g textures_at 0) where
    -- the head stays
    keeps : HeadStays t₀ t
    keeps = scope_keeps m.frame

    module _ (o : owned_of g k ≡ true) where
      slot_now : HalfReady start_half t r k (extent_of g k)
      slot_now = let x = q.passed.each k h o in scope_still q.into x m.frame (m.slots.same k x.texture (omega arith))

      given_now : HalfGiven t k (extent_of g k) start_half g l
      given_now = owned_given q.given (q.passed.flags ∙ sym (flags_stay keeps)) h o

    -- what a lap asks for
    pub lap_ready : OwnedReady t r k g l × (p ≡ flags_of t)
    lap_ready =
        let few = q.given.measured.textures in
        (record { index = omega (arith, few); ready = slot_now; given = given_now }, q.flags ∙ sym (flags_stay keeps))

    -- ---- After a lap
    module _ {x : Stopped} {t' r' : List ℕ}
        (y : SlotMerged (OnlyOwned g k) t r k (merge_given ranged p k (scope_slot t r k) (scope_slot g l k)) x t' r') where
      -- what it changed is of an index that the given scope owns
      frame_now : ScopeFrame (OwnedBy g) (numbers_of t₀) t₀ r₀ t' r'
      frame_now =
          keeps_then m.frame (subst (λ (n : Numbers). ScopeFrame (OwnedBy g) n t r t' r') (numbers_stay keeps)
          (keeps_more (λ j n. (subst (λ (z : ℕ). z < get_or g textures_at 0) (sym n.0) h, n.1)) (λ j z o. o) y.frame))

      -- the other textures read as before it
      others : (j : ℕ) → j < get_or t₀ textures_at 0 → (j ≡ k → ⊥) → scope_slot t' r' j ≡ scope_slot t r j
      others j b ne =
          scope_rest (measured_stays keeps m.frame.ranges.long q.into.measured) (scope_named (λ i n. n.0) y) j
          (rw (keeps.words textures_at (omega arith)) b) ne

      -- this one as it was merged
      this : merge_given ranged p k (scope_slot t r k) (scope_slot g l k) ≡ record { value = scope_slot t' r' k; conflict = met_at k x }
      this =
          let n : numbers_of t' ≡ numbers_of t = numbers_stay (scope_keeps y.frame) in
          let s : scope_slot t' r' k ≡ (merge_given ranged p k (scope_slot t r k) (scope_slot g l k)).value =
          ap (λ (d : Numbers). slot_with (held_of d start_half t' r') t' k) n ∙ y.slot in
          sym (λ i. record { value = s i; conflict = y.conflict i })

      -- it met no conflict
      pub turn : x ≡ (Ok tt) → Merging p t₀ r₀ g l (k + 1) t' r'
      turn e = record { within = omega arith; slots = walked_next m.slots others (λ b. rw e at this); frame = frame_now }

      -- it met one: the given scope owns the texture
      is_owned : (b : Bool) → owned_of g k ≡ b → {c : InvalidUse} → x ≡ Err c → owned_of g k ≡ true
      is_owned true e z = e
      is_owned false e {c} z =
          let n : met_at k x ≡ None = y.conflict ∙ rw e in let s : met_at k x ≡ Some (indexed k c) = ap (met_at k) z in
          absurd (let w : ◌≡◌ {A = ℕ} 0 1 = cc in omega arith)

      pub stop : {c : InvalidUse} → x ≡ Err c
          → SlotsMerged (OwnedBy g) (merged_slots p t₀ r₀ g l) t₀ r₀ (Err (Conflict
          (record { index = tracker_index k; found = c }))) t' r'
      unfolding scope_of
      stop {c} e =
          let b = (q.passed.each k h (is_owned (owned_of g k) refl e)).texture in
          let w = walk_stop (merge_given ranged p) (scope_slot t₀ r₀) (scope_slot t' r') (scope_slot g l)
          m.slots b h others (rw e at this) in
          walk_gives w frame_now
