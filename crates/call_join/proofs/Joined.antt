-- `set_from` and the calls: from what the code found and changed to the contract.
use Rattle.model.specs.Prelude.{ℕ, refl, sym, ap, subst, ◌∙◌, Bool, true, Option, None, Some, List, length, get_or, Ok, Err}
use Rattle.model.specs.{declared.{InvalidUse.InvalidUse, LogHead.LogHead, Refusal.Refusal}, Base.{each_at₂, over₂}}
use Rattle.model.specs.{Representation.Ends, Log.pending, Sets.{Head, Tracker, capacity, Slot, with_tracker, head_of}, Refusals.set_refusal}
use Rattle.model.specs.Calls.{CallResult, Indexed, done, unless, set_from, set_given, log_given, set_from_usage_scope, set_from_tracker}
use Rattle.model.specs.Texture.{Held, Entry, from_held, ranged}
use Rattle.model.specs.{WellFormed.{scope_fits, tracker_fits, well_formed_scope, well_formed_tracker}, BoolLaws.and_left}
use Rattle.std.specs.Prelude.{◌/◌, ◌≤◌, ◌≡◌}
use Rattle.agreement.proofs.{LogRoom.entries_written, EachCall.{set_from_usage_scope_room, set_from_tracker_room}}
use Rattle.set_storage.specs.Storage.{numbers_of, flags_of, start_half, end_half, held_of, slot_with, scope_of, tracker_of, list_from}
use Rattle.set_storage.specs.{Storage.{mask_at, textures_at}, Stays.OwnedBy}
use Rattle.set_checks.specs.{Head.{head_in, tracker_head, head_is}, Sets.SetTold, Passed.set_passed}
use Rattle.set_ready.specs.Tested.{TrackerTested}
use Rattle.texture_track.specs.{Tracked.{Tracked, Changes, away_own, changes_tracked}, GivenSlot.{pair_of, pass_start, pass_end}}
use Rattle.log_head.specs.Log.{head_within, refused_with}
use Rattle.call_join.specs.{Lists.{over_same, each_same}, Join.{GivenTested, Joins, join_call, given_of, joined_entries, joined_tracker}}
use Rattle.call_join.proofs.Logs.{entries_model}
use Rattle.model.specs.Log.{Answered}

-- ---- `set_from`
-- what a tracker's call gives
abbrev TrackerResult : Type 0
TrackerResult = CallResult InvalidUse (List Entry) (Tracker Held)

module _ (t s e : List ℕ) (from to : ℕ) (g a b : List ℕ) where
  -- what it gives where no check fails
  abbrev passing : TrackerResult
  passing = record {
    answer = done;
    log = each_at₂ (log_given ranged pass_start pass_end (flags_of t) (get_or t mask_at 0)) 0 (tracker_of t s e).set.slots
        (given_of from to g a b).slots;
    after = joined_tracker t s e from to g a b;
  }

  -- its refusal, by what the checks read
  call_is : (o : Option Refusal) → set_refusal (head_in t) (head_in g) ≡ o
      → join_call t s e from to g a b ≡ unless o (tracker_of t s e) passing
  unfolding tracker_of
  call_is o z =
      ap (λ (h : Head). unless (set_refusal h (head_of (given_of from to g a b))) (tracker_of t s e) passing) (tracker_head t s e)
      ∙ ap (λ (h : Head). unless (set_refusal (head_in t) h) (tracker_of t s e) passing) (head_is (pair_of from to g a b) g)
      ∙ ap (λ (y : Option Refusal). unless y (tracker_of t s e) passing) z

module _ {t s e : List ℕ} {from to : ℕ} {g a b : List ℕ} (w : TrackerTested t s e) (v : GivenTested from to g a b) where
  -- the checks passed
  pub joins : SetTold t g (Ok tt) → Joins t s e from to g a b
  joins z = record { tracker = w; given = v; passed = set_passed t g z.is }

  -- no more entries than the model's call adds
  pub joined_few : SetTold t g (Ok tt) → length (pending (join_call t s e from to g a b).log) ≤ capacity (numbers_of t)
      → length (joined_entries t e from g a) ≤ capacity (numbers_of t)
  joined_few z k = rw (call_is t s e from to g a b None z.is, entries_model (joins z)) at k

  module _ {h : LogHead} {l : List ℕ} (k : head_within (length l / 7) h ≡ true) where
    -- 6 to 9
    pub from_away : {r : Refusal} → SetTold t g (Err r)
        → Tracked (OwnedBy g) true (join_call t s e from to g a b) h t s e l (refused_with r h) t s e l
    from_away {r} z = away_own r refl k (ap (λ (y : TrackerResult). y.answer) (call_is t s e from to g a b (Some r) z.is))

    -- 15, or done
    pub from_done : {x : Answered} {t' s' e' l' : List ℕ} → SetTold t g (Ok tt)
        → Changes (OwnedBy g) (joined_entries t e from g a) (joined_tracker t s e from to g a b) h t s e l x t' s' e' l'
        → Tracked (OwnedBy g) true (join_call t s e from to g a b) h t s e l x t' s' e' l'
    from_done {x} {t'} {s'} {e'} {l'} z c =
        subst (λ (y : TrackerResult). Tracked (OwnedBy g) true y h t s e l x t' s' e' l') (sym (call_is t s e from to g a b None z.is))
        (changes_tracked refl k refl (rw (entries_model (joins z)) c))

-- ---- The calls
-- what a call on a set with the head h gives
abbrev result_of : Tracker Held → Head → List (Indexed (List Entry)) → List (Slot (Ends Held)) → TrackerResult
result_of t h log slots = unless (set_refusal (head_of t.set) h) t (record { answer = done; log = log; after = with_tracker t slots })

-- a scope's states, given as start and as end
scope_is : (t : Tracker Held) (g r : List ℕ)
    → set_from_usage_scope ranged t (scope_of g r) ≡ set_from ranged pass_start pass_end t (given_of start_half start_half g r r)
unfolding scope_of
scope_is t g r =
    let n = get_or g textures_at 0 in let F = slot_with (held_of (numbers_of g) start_half g r) g in
    let G = slot_with (pair_of start_half start_half g r r) g in
    let log = each_at₂ (log_given ranged from_held from_held t.set.flags t.mask) 0 t.set.slots (list_from F 0 n) in
    let slots = over₂ (set_given ranged from_held from_held t.set.flags) 0 t.set.slots (list_from F 0 n) in
    let head = head_of (given_of start_half start_half g r r) in
    let log₂ = each_at₂ (log_given ranged pass_start pass_end t.set.flags t.mask) 0 t.set.slots (list_from G 0 n) in
    ap (λ (h : Head). result_of t h log slots) (head_is (held_of (numbers_of g) start_half g r) g
    ∙ sym (head_is (pair_of start_half start_half g r r) g))
    ∙ ap (λ (y : List (Indexed (List Entry))). result_of t head y slots) (each_same
    (log_given ranged from_held from_held t.set.flags t.mask) (log_given ranged pass_start pass_end t.set.flags t.mask) F G
    (λ x y. refl) t.set.slots 0 n)
    ∙ ap (λ (y : List (Slot (Ends Held))). result_of t head log₂ y) (over_same (set_given ranged from_held from_held t.set.flags)
    (set_given ranged pass_start pass_end t.set.flags) F G (λ x y. refl) t.set.slots 0 n)

-- a tracker's start and end
tracker_is : (t : Tracker Held) (g a b : List ℕ)
    → set_from_tracker ranged t (tracker_of g a b) ≡ set_from ranged pass_start pass_end t (given_of start_half end_half g a b)
unfolding tracker_of
tracker_is t g a b = refl

-- ---- No call adds more entries than the tracker has subresources
module _ (t s e : List ℕ) (w : well_formed_tracker (length s / 3) (length e / 3) (tracker_of t s e) ≡ true) where
  sound : tracker_fits (tracker_of t s e) ≡ true
  sound = and_left (tracker_fits (tracker_of t s e)) _ (and_left _ _ w)

  pub scope_room : (g r : List ℕ) → well_formed_scope (length r / 3) (scope_of g r) ≡ true
      → length (pending (join_call t s e start_half start_half g r r).log) ≤ capacity (numbers_of t)
  unfolding tracker_of
  scope_room g r v =
      rw (← scope_is (tracker_of t s e) g r, entries_written (set_from_usage_scope ranged (tracker_of t s e) (scope_of g r)).log)
      (set_from_usage_scope_room (tracker_of t s e) sound (scope_of g r) (and_left (scope_fits (scope_of g r)) _ v))

  pub tracker_room : (g a b : List ℕ) → well_formed_tracker (length a / 3) (length b / 3) (tracker_of g a b) ≡ true
      → length (pending (join_call t s e start_half end_half g a b).log) ≤ capacity (numbers_of t)
  unfolding tracker_of
  tracker_room g a b v =
      rw (entries_written (set_from_tracker ranged (tracker_of t s e) (tracker_of g a b)).log)
      (set_from_tracker_room (tracker_of t s e) sound (tracker_of g a b) (and_left (tracker_fits (tracker_of g a b)) _ (and_left _ _ v)))

-- both sets passed the test
module _ {fits : Bool} {h : LogHead} {t s e l : List ℕ} {x : Answered} {t' s' e' l' : List ℕ} (f : fits ≡ true) where
  -- a scope is given
  pub from_scope : (g r : List ℕ) → Tracked (OwnedBy g) true (join_call t s e start_half start_half g r r) h t s e l x t' s' e' l'
      → Tracked (OwnedBy g) fits (set_from_usage_scope ranged (tracker_of t s e) (scope_of g r)) h t s e l x t' s' e' l'
  from_scope g r q = rw (f, scope_is (tracker_of t s e) g r) q

  -- a tracker is given
  pub from_tracker : (g a b : List ℕ) → Tracked (OwnedBy g) true (join_call t s e start_half end_half g a b) h t s e l x t' s' e' l'
      → Tracked (OwnedBy g) fits (set_from_tracker ranged (tracker_of t s e) (tracker_of g a b)) h t s e l x t' s' e' l'
  from_tracker g a b q = rw (f, tracker_is (tracker_of t s e) g a b) q
