-- A listed texture that a scope owns goes into a tracker, and the scope no longer owns it: one, and all of a list.
use Rattle.std.specs.Prelude.{◌+◌, ◌≤◌, ◌<◌, ◌≡◌, ◌∷◌}
use Rattle.model.specs.Prelude.{ℕ, add-one, arith, refl, sym, ap, subst, ◌∙◌, true, false, false≢true, List, []}
use Rattle.model.specs.Prelude.{length, get_or, set, take, drop, take-suc, take_all, drop-cons, drop-length, eq-eqb, ne_eqb, eqb-true}
use Rattle.model.specs.Prelude.{not-false}
use Rattle.model.specs.{declared.{UsageFlags.UsageFlags, InvalidUse.InvalidUse}, Sets.Slot}
use Rattle.model.specs.{Calls.{CallResult, set_slot, sparse_one, sparse_all}, Texture.{Held, Entry, ranged}, BoolLaws.by_test}
use Rattle.set_storage.specs.{Stays.{Only, OnlyOwned, TrackerFrame}, Frames.Measured}
use Rattle.set_storage.specs.Storage.{numbers_of, flags_of, extent_of, owned_of, start_half, scope_of, tracker_of, tracker_slot, owned_at}
use Rattle.set_storage.specs.Storage.{textures_at, table_indices, table_length}
use Rattle.set_checks.specs.Passed.{TexturePassed, SparsePassed}
use Rattle.set_ready.specs.{Named.Within, Tested.{ScopeTested, TrackerTested}}
use Rattle.set_ready.specs.{Half.{HeadStays, BothReady, tracker_keeps, flags_stay, measured_stays}, Walked.walked_turn}
use Rattle.set_ready.specs.{SetWalk.{TrackerWalked, tracker_start, left_ready, tracker_turn}, Given.{given_at, HalfGiven}}
use Rattle.texture_track.specs.{Slot.{SlotSet, tracker_kept, tracker_named, tracker_view}, GivenSlot.{SetsAt, slot_after}, Tracked.Same}
use Rattle.call_remove.specs.{Gone.{Listed, disowned, set_zero, disowned_last}, Removed.{Both, sets_of}, Sparse.given}
use Rattle.call_remove.specs.Logs.{given_is, into_is}
use Rattle.call_remove.specs.Fewer.{owned_keeps, extent_stays, off_other, off_still, off_view, Fewer, fewer, still_ready}

-- THE CONTRACT of one texture: the tracker takes it where the scope owns it, otherwise nothing changes; and the scope has it no more
pub record TakenAt (t s e g r : List ℕ) (i : ℕ) (p : UsageFlags) (t' s' e' g' : List ℕ) : Type 0 where
  pub into : SlotSet (OnlyOwned g i) t s e i (slot_after p start_half start_half g r r i (tracker_slot t s e i)) t' s' e'
  pub free : owned_of g i ≡ false → Same t s e t' s' e'
  pub gone : g' ≡ set g (owned_at i) 0

-- the test and the checks passed
pub record Listing (t s e g r is : List ℕ) : Type 0 where
  pub tracker : TrackerTested t s e
  pub scope : ScopeTested g r
  pub passed : SparsePassed t g is

-- the sets that the list leaves
abbrev pub sets_after : List ℕ → List ℕ → List ℕ → List ℕ → List ℕ → List ℕ → Both
sets_after t s e g r is = (sparse_all ranged is (sets_of t s e g r)).after

-- THE CONTRACT of all that is listed
pub record Takes (t s e g r is t' s' e' g' : List ℕ) : Type 0 where
  pub tracker : tracker_of t' s' e' ≡ (sets_after t s e g r is).0
  pub scope : scope_of g' r ≡ (sets_after t s e g r is).1
  pub gone : g' ≡ disowned is g
  pub frame : TrackerFrame (Within t (Listed is g)) (numbers_of t) t s e t' s' e'

-- ---- One texture
-- the scope does not own it
pub taken_not : {t s e g r : List ℕ} {i : ℕ} {p : UsageFlags} → get_or g (owned_at i) 0 ≡ 0 → TakenAt t s e g r i p t s e g
taken_not {t} {s} {e} {g = g} {i = i} z = record {
  into = rw (eq-eqb (get_or g (owned_at i) 0) 0 z) (tracker_kept t s e i);
  free = λ o. (refl, (refl, refl));
  gone = sym (set_zero g (owned_at i) z);
}

-- it does, and its word of ownership becomes 0
pub taken_own : {t s e g r : List ℕ} {i : ℕ} {p : UsageFlags} {t' s' e' : List ℕ} → (get_or g (owned_at i) 0 ≡ 0 → ⊥)
    → SlotSet (OnlyOwned g i) t s e i (slot_after p start_half start_half g r r i (tracker_slot t s e i)) t' s' e'
    → TakenAt t s e g r i p t' s' e' (set g (owned_at i) 0)
taken_own {g = g} {i = i} z q =
    record { into = q; free = λ o. absurd (false≢true (sym o ∙ rw (ne_eqb (get_or g (owned_at i) 0) 0 z))); gone = refl }

-- it is the model's
module _ {t s e g r : List ℕ} {i : ℕ} {p : UsageFlags} {t' s' e' g' : List ℕ} (q : TakenAt t s e g r i p t' s' e' g')
    (few : i < table_indices) (long : length g ≡ table_length) (h : i < get_or g textures_at 0) where
  one_view : p ≡ flags_of t → Measured (numbers_of t) start_half t s → (owned_of g i ≡ true → i < get_or t textures_at 0)
      → ◌≡◌ {A = Both} (sets_of t' s' e' g' r) (sparse_one ranged i (sets_of t s e g r)).after
  unfolding tracker_of
  one_view f m inside =
      let z = given_is t s e g r i h in let own = sym (ap (λ (y : Slot Held). y.owned) z) in
      by_test (λ (o : CallResult InvalidUse (List Entry) Both). ◌≡◌ {A = Both} (sets_of t' s' e' g' r) o.after)
      (given (sets_of t s e g r) i).owned
      (λ o.
      let b = inside (own ∙ o) in let x = given_at start_half g r i in
      let y = subst (λ (y : UsageFlags). SlotSet (Only i) t s e i (set_slot ranged y (extent_of g i) x x (tracker_slot t s e i)) t' s' e') f
      (rw (own ∙ o) at (tracker_named (λ j n. n.0) q.into)) in
      let w = ap (λ (y : List ℕ). scope_of y r) q.gone ∙ off_view g i few long r h in
      rw (z, into_is t s e g r i b) (λ j. (tracker_view m y j, w j)))
      (λ o.
      let w = q.free (own ∙ o) in
      rw (w.0, w.1.0, w.1.1, q.gone, set_zero g (owned_at i) (eqb-true _ _ (not-false _ (own ∙ o)))))

-- ---- All that is listed, turn by turn: what is left of the list makes of the sets what all of it makes at entry, and the tracker's slots
-- that the scope owns still are left
pub record Taking (t s e g r is : List ℕ) (k : ℕ) (t₁ s₁ e₁ g₁ : List ℕ) : Type 0 where
  pub reached : k ≤ length is
  pub after : sets_after t₁ s₁ e₁ g₁ r (drop k is) ≡ sets_after t s e g r is
  pub gone : g₁ ≡ disowned (take k is) g
  pub walked : TrackerWalked (Within t (Listed is g)) t s e (λ j x y. Unit {0}) (λ j. owned_of g₁ j ≡ true) t₁ s₁ e₁

-- nothing is taken yet
pub taking_start : (t s e g r is : List ℕ) → Taking t s e g r is 0 t s e g
unfolding disowned
taking_start t s e g r is = record { reached = omega arith; after = refl; gone = refl; walked = tracker_start (λ j l. tt) }

module _ {t s e g r is : List ℕ} (w : Listing t s e g r is) {k : ℕ} {t₁ s₁ e₁ g₁ : List ℕ} (q : Taking t s e g r is k t₁ s₁ e₁ g₁)
    (h : k < length is) where
  -- the index at k
  abbrev i : ℕ
  i = get_or is k 0

  -- the head stays
  keeps : HeadStays t t₁
  keeps = tracker_keeps q.walked.frame

  -- each that is listed has words in the table
  few : (j : ℕ) → j < length is → get_or is j 0 < table_indices
  few j l = omega (arith, w.passed.below j l, w.scope.measured.textures)

  -- the scope owns less
  scope_now : Fewer g g₁
  scope_now = subst (Fewer g) (sym q.gone) (fewer is g k few w.scope.measured.table)

  -- the checks of a listed index that it owns
  owned_passed : (j : ℕ) → j ≡ i → owned_of g₁ j ≡ true → TexturePassed t j (extent_of g j)
  owned_passed j e o = rw e (w.passed.each k h (scope_now.less i (rw e at o)))

  -- index i is ready
  pub taking_ready : {p : UsageFlags} → p ≡ flags_of t → SetsAt t₁ s₁ e₁ i start_half start_half g₁ r r p
  taking_ready f =
      let v = scope_now in
      let half : owned_of g₁ i ≡ true → HalfGiven t₁ i (extent_of g₁ i) start_half g₁ r = λ o.
      let y = still_ready v w.scope (w.passed.below k h) o in let x = y.texture in record {
        measured = y.measured;
        texture = x.texture;
        flags = flags_stay (owned_keeps v.words) ∙ w.passed.flags ∙ sym (flags_stay keeps);
        extent = refl;
        fits = record { mip = x.mip; mips = x.top; layer = x.some; layers = x.low };
        held = y.held o;
      } in
      record {
        index = few k h;
        ready = λ o.
            subst (BothReady t₁ s₁ e₁ i) (sym (extent_stays v.words i)) (left_ready q.walked w.tracker (owned_passed i refl o) o);
        given = λ o. record { flags = f ∙ sym (flags_stay keeps); start = half o; end = half o };
      }

  module _ {t₂ s₂ e₂ g₂ : List ℕ} {p : UsageFlags} (f : p ≡ flags_of t) (z : TakenAt t₁ s₁ e₁ g₁ r i p t₂ s₂ e₂ g₂) where
    long_now : length g₁ ≡ table_length
    long_now = scope_now.words.long ∙ w.scope.measured.table

    -- what is left of the list after it
    after_turn : sets_after t₂ s₂ e₂ g₂ r (drop (k + 1) is) ≡ sets_after t s e g r is
    after_turn =
        let rest : drop k is ≡ i ∷ drop (k + 1) is = rw add-one (drop-cons is k 0 h) in
        let m : Measured (numbers_of t₁) start_half t₁ s₁ = measured_stays keeps q.walked.frame.starts.long w.tracker.starts in
        let v = owned_keeps scope_now.words in
        let below : i < get_or g₁ textures_at 0 = rw (v.words textures_at (omega arith)) (w.passed.below k h) in
        let view = one_view z (few k h) long_now below (f ∙ sym (flags_stay keeps)) m
        (λ o. rw (keeps.words textures_at (omega arith)) (owned_passed i refl o).texture) in
        ap (λ (y : Both). (sparse_all ranged (drop (k + 1) is) y).after) view ∙ sym (ap (sets_after t₁ s₁ e₁ g₁ r) rest) ∙ q.after

    -- one more is taken
    pub taking_turn : Taking t s e g r is (k + 1) t₂ s₂ e₂ g₂
    taking_turn =
        let listed : (j : ℕ) → OnlyOwned g₁ i j → (j ≡ i) × Within t (Listed is g) j = λ j n. (
          n.0,
          (
            (owned_passed j n.0 n.1).texture,
            record { at = k; below = h; here = sym n.0; owned = scope_now.less j n.1 },
          ),
        ) in
        record {
          reached = omega arith;
          after = after_turn;
          gone = z.gone ∙ rw (add-one, take-suc is k 0 h, disowned_last (take k is) i g, q.gone);
          walked = tracker_turn q.walked w.tracker.starts listed z.into.frame (λ o.
              walked_turn q.walked.slots o (λ b. tt) (λ j ne l. rw z.gone (off_other g₁ i (few k h) j ne ∙ l))
              (λ j l. off_still g₁ i (few k h) long_now j (rw z.gone at l)));
        }

-- the list is at its end
pub taking_end : {t s e g r is : List ℕ} {k : ℕ} {t₁ s₁ e₁ g₁ : List ℕ} → Taking t s e g r is k t₁ s₁ e₁ g₁ → length is ≤ k
    → Takes t s e g r is t₁ s₁ e₁ g₁
taking_end {t} {s} {e} {g} {r} {is} {k} {t₁} {s₁} {e₁} {g₁} q past =
    let n : drop k is ≡ [] = let z : k ≡ length is = omega (arith, q.reached) in rw z (drop-length is) in
    let a : sets_of t₁ s₁ e₁ g₁ r ≡ sets_after t s e g r is = sym (ap (λ (l : List ℕ). sets_after t₁ s₁ e₁ g₁ r l) n) ∙ q.after in
    record {
      tracker = ap (λ (y : Both). y.0) a;
      scope = ap (λ (y : Both). y.1) a;
      gone = q.gone ∙ ap (λ (l : List ℕ). disowned l g) (take_all k is past);
      frame = q.walked.frame;
    }
