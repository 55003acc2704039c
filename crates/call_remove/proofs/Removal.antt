-- The sparse call: from what the code found and changed to the contract.
use Rattle.model.specs.Prelude.{ℕ, arith, refl, sym, ap, subst, ◌∙◌, Bool, true, and-eq-true_iff, [], Option, None, Some, List}
use Rattle.model.specs.Prelude.{length, Err, Ok}
use Rattle.model.specs.declared.{InvalidUse.InvalidUse, LogHead.LogHead, Refusal.Refusal}
use Rattle.model.specs.{Sets.{capacity, Head, Set, Tracker, head_of}, Refusals.sparse_refusal}
use Rattle.model.specs.{Calls.{CallResult, unless, sparse_all, set_and_remove_sparse}, Log.pending, Texture.{Held, Entry, ranged}}
use Rattle.model.specs.WellFormed.{scope_fits, tracker_fits, well_formed_scope, well_formed_tracker}
use Rattle.std.specs.Prelude.{◌/◌, ◌≤◌, ◌≡◌, ◌∷◌}
use Rattle.set_storage.specs.{Storage.{numbers_of, scope_of, tracker_of}}
use Rattle.agreement.specs.LogBound.{entries}
use Rattle.agreement.proofs.{LogRoom.entries_written, EachCall.sparse_room}
use Rattle.set_checks.specs.{Head.{head_in, tracker_head, scope_head}, Sets.SparseTold, Passed.sparse_passed}
use Rattle.set_ready.specs.Tested.{ScopeTested, TrackerTested}
use Rattle.log_head.specs.{Log.{head_within, refused_with}}
use Rattle.call_remove.specs.Removed.{Both, sets_of, Removed, Removes, away_own, removes_removed}
use Rattle.call_remove.specs.{Logs.{removed_entries, entries_model}, Taken.{Listing, sets_after}}
use Rattle.model.specs.Calls as calls
use Rattle.model.specs.Log.{Answered}

-- ---- The call
abbrev BothResult : Type 0
BothResult = CallResult InvalidUse (List Entry) Both

-- by what its checks tell
call_is : (t s e g r is : List ℕ) (o : Option Refusal) → sparse_refusal (head_in t) (head_in g) is ≡ o
    → set_and_remove_sparse ranged (tracker_of t s e) (scope_of g r) is
    ≡ unless o (sets_of t s e g r) (sparse_all ranged is (sets_of t s e g r))
call_is t s e g r is o z =
    ap (λ (h : Head). unless (sparse_refusal h (head_of (scope_of g r)) is) (sets_of t s e g r) (sparse_all ranged is (sets_of t s e g r)))
    (tracker_head t s e)
    ∙ ap (λ (h : Head). unless (sparse_refusal (head_in t) h is) (sets_of t s e g r)
    (sparse_all ranged is (sets_of t s e g r))) (scope_head g r)
    ∙ ap (λ (y : Option Refusal). unless y (sets_of t s e g r) (sparse_all ranged is (sets_of t s e g r))) z

-- what the test shows of a tracker
pub tracker_part : (a b : ℕ) (t : Tracker Held) → well_formed_tracker a b t ≡ true → tracker_fits t ≡ true
tracker_part a b t e = ((and-eq-true_iff _ _).0 ((and-eq-true_iff _ _).0 e).0).0

-- and of a scope
pub scope_part : (a : ℕ) (s : Set Held) → well_formed_scope a s ≡ true → scope_fits s ≡ true
scope_part a s e = ((and-eq-true_iff _ _).0 e).0

module _ {t s e g r is : List ℕ} (tracker : TrackerTested t s e) (scope : ScopeTested g r) (told : SparseTold t g is (Ok tt)) where
  -- the test and the checks passed
  pub removes : Listing t s e g r is
  removes = record { tracker = tracker; scope = scope; passed = sparse_passed t g is told.is }

  -- the entries are the model's
  model_entries : pending (sparse_all ranged is (sets_of t s e g r)).log ≡ removed_entries t e g r is
  model_entries = entries_model tracker scope removes.passed

  -- no more than N × M × W
  pub few_entries : tracker_fits (tracker_of t s e) ≡ true → scope_fits (scope_of g r) ≡ true
      → length (removed_entries t e g r is) ≤ capacity (numbers_of t)
  unfolding tracker_of
  few_entries a b =
      let z = sparse_room (tracker_of t s e) a (scope_of g r) b is in
      let y : entries (set_and_remove_sparse ranged (tracker_of t s e) (scope_of g r) is).log ≡ length (removed_entries t e g r is) =
      ap (λ (x : BothResult). entries x.log) (call_is t s e g r is None told.is)
      ∙ sym (entries_written (sparse_all ranged is (sets_of t s e g r)).log) ∙ ap length model_entries in
      omega arith

  -- 15, or done
  pub call_done : {fits : Bool} {h : LogHead} {l : List ℕ} {x : Answered} {t' s' e' g' l' : List ℕ} → fits ≡ true
      → head_within (length l / 7) h ≡ true
      → Removes is (removed_entries t e g r is) (sets_after t s e g r is) h t s e g r l x t' s' e' g' l'
      → Removed is fits (set_and_remove_sparse ranged (tracker_of t s e) (scope_of g r) is) h t s e g r l x t' s' e' g' l'
  call_done {fits} {h} {l} {x} {t'} {s'} {e'} {g'} {l'} f k c =
      subst (λ (y : BothResult). Removed is fits y h t s e g r l x t' s' e' g' l') (sym (call_is t s e g r is None told.is))
      (removes_removed f k (answers is) (rw model_entries c))
    where
      answers : (js : List ℕ) → (sparse_all ranged js (sets_of t s e g r)).answer ≡ calls.done
      answers [] = refl
      answers (j ∷ js) = refl

-- 6 to 9
pub call_away : {t s e g r is : List ℕ} {fits : Bool} {h : LogHead} {l : List ℕ} {y : Refusal} → fits ≡ true
    → head_within (length l / 7) h ≡ true → SparseTold t g is (Err y)
    → Removed is fits (set_and_remove_sparse ranged (tracker_of t s e) (scope_of g r) is) h t s e g r l (refused_with y h) t s e g l
call_away {t} {s} {e} {g} {r} {is} {y = y} f k told =
    away_own y f k (ap (λ (x : BothResult). x.answer) (call_is t s e g r is (Some y) told.is))
