-- The claims of CallsAgree and LogRoom for each of the six calls by itself, on what it is handed.
use Rattle.model.specs.Prelude.{ℕ, true, Option, List, []}
use Rattle.model.specs.{declared.{Extent.Extent, Selector.Selector}, Sets.{Set, Tracker, capacity}, Refusals.tracker_index}
use Rattle.model.specs.Calls.{call_merge_single, call_merge_usage_scope, call_set_single, call_set_from_usage_scope, call_set_from_tracker}
use Rattle.model.specs.Calls.{call_set_and_remove_sparse, merge_single, merge_usage_scope, set_single, set_from_usage_scope}
use Rattle.model.specs.{Calls.{set_from_tracker, set_and_remove_sparse, Sets, step}, Texture.{Held, ranged}}
use Rattle.model.specs.{WellFormed.{scope_fits, tracker_fits}, BoolLaws.{and_left, and_right}}
use Rattle.std.specs.Prelude.{◌≤◌, ◌≡◌, ◌&&◌, ◌∷◌}
use Rattle.agreement.specs.{WellFormedSets.Word, LogBound.{entries, owned_states}}
use Rattle.agreement.proofs.{CallsAgree.call_keeps, LogRoom.{owned_few, capacity_few}}

-- the sets that a call is handed, and no others
abbrev handed : List (Set Held) → List (Tracker Held) → Sets ranged
handed ss ts = record { scopes = ss; trackers = ts }

module _ (s : Set Held) (fits : scope_fits s ≡ true) where
  pub merge_single_fits : (i : ℕ) (sh : Extent) (sel : Option Selector) (st : ℕ) → Word st
      → scope_fits (merge_single ranged s i sh sel st).after ≡ true
  unfolding step
  merge_single_fits i sh sel st w =
      and_left _ true (and_left _ true (call_keeps (call_merge_single 0 (tracker_index i) sh sel st) (handed (s ∷ []) []) w (rw fits)))

  pub merge_usage_scope_fits : (g : Set Held) → scope_fits g ≡ true → scope_fits (merge_usage_scope ranged s g).after ≡ true
  unfolding step
  merge_usage_scope_fits g e =
      and_left _ (scope_fits g && true)
      (and_left _ true (call_keeps (call_merge_usage_scope 0 1) (handed (s ∷ g ∷ []) []) tt (rw (fits, e))))

module _ (t : Tracker Held) (fits : tracker_fits t ≡ true) where
  pub set_single_fits : (i : ℕ) (sh : Extent) (sel : Selector) (st : ℕ) → Word st
      → tracker_fits (set_single ranged t i sh sel st).after ≡ true
  unfolding step
  set_single_fits i sh sel st w =
      and_left _ true (call_keeps (call_set_single 0 (tracker_index i) sh sel st) (handed [] (t ∷ [])) w (rw fits))

  pub set_from_usage_scope_fits : (g : Set Held) → scope_fits g ≡ true → tracker_fits (set_from_usage_scope ranged t g).after ≡ true
  unfolding step
  set_from_usage_scope_fits g e =
      and_left _ true (and_right (scope_fits g && true) _
      (call_keeps (call_set_from_usage_scope 0 0) (handed (g ∷ []) (t ∷ [])) tt (rw (fits, e))))

  pub set_from_tracker_fits : (g : Tracker Held) → tracker_fits g ≡ true → tracker_fits (set_from_tracker ranged t g).after ≡ true
  unfolding step
  set_from_tracker_fits g e =
      and_left _ (tracker_fits g && true) (call_keeps (call_set_from_tracker 0 1) (handed [] (t ∷ g ∷ [])) tt (rw (fits, e)))

  -- into the tracker, and out of the scope
  pub sparse_fits : (s : Set Held) → scope_fits s ≡ true → (is : List ℕ)
      → (tracker_fits (set_and_remove_sparse ranged t s is).after.0 ≡ true)
      × (scope_fits (set_and_remove_sparse ranged t s is).after.1 ≡ true)
  unfolding step
  sparse_fits s e is =
      let h = call_keeps (call_set_and_remove_sparse 0 0 is) (handed (s ∷ []) (t ∷ [])) tt (rw (fits, e)) in
      (and_left _ true (and_right (scope_fits (set_and_remove_sparse ranged t s is).after.1 && true) _ h), and_left _ true (and_left _ _ h))

  -- ---- the entries that each adds are no more than the subresources of the textures that the tracker owns
  pub set_single_owned : (i : ℕ) (sh : Extent) (sel : Selector) (st : ℕ) → Word st
      → entries (set_single ranged t i sh sel st).log ≤ owned_states t.set.slots
  unfolding step
  set_single_owned i sh sel st w = owned_few (call_set_single 0 (tracker_index i) sh sel st) (handed [] (t ∷ [])) w (rw fits)

  pub set_from_usage_scope_owned : (g : Set Held) → scope_fits g ≡ true
      → entries (set_from_usage_scope ranged t g).log ≤ owned_states t.set.slots
  unfolding step
  set_from_usage_scope_owned g e = owned_few (call_set_from_usage_scope 0 0) (handed (g ∷ []) (t ∷ [])) tt (rw (fits, e))

  pub set_from_tracker_owned : (g : Tracker Held) → tracker_fits g ≡ true
      → entries (set_from_tracker ranged t g).log ≤ owned_states t.set.slots
  unfolding step
  set_from_tracker_owned g e = owned_few (call_set_from_tracker 0 1) (handed [] (t ∷ g ∷ [])) tt (rw (fits, e))

  pub sparse_owned : (s : Set Held) → scope_fits s ≡ true → (is : List ℕ)
      → entries (set_and_remove_sparse ranged t s is).log ≤ owned_states t.set.slots
  unfolding step
  sparse_owned s e is = owned_few (call_set_and_remove_sparse 0 0 is) (handed (s ∷ []) (t ∷ [])) tt (rw (fits, e))

  -- ---- nor than N × M × W
  pub set_single_room : (i : ℕ) (sh : Extent) (sel : Selector) (st : ℕ) → Word st
      → entries (set_single ranged t i sh sel st).log ≤ capacity t.set.numbers
  unfolding step
  set_single_room i sh sel st w = capacity_few (call_set_single 0 (tracker_index i) sh sel st) (handed [] (t ∷ [])) w (rw fits)

  pub set_from_usage_scope_room : (g : Set Held) → scope_fits g ≡ true
      → entries (set_from_usage_scope ranged t g).log ≤ capacity t.set.numbers
  unfolding step
  set_from_usage_scope_room g e = capacity_few (call_set_from_usage_scope 0 0) (handed (g ∷ []) (t ∷ [])) tt (rw (fits, e))

  pub set_from_tracker_room : (g : Tracker Held) → tracker_fits g ≡ true
      → entries (set_from_tracker ranged t g).log ≤ capacity t.set.numbers
  unfolding step
  set_from_tracker_room g e = capacity_few (call_set_from_tracker 0 1) (handed [] (t ∷ g ∷ [])) tt (rw (fits, e))

  pub sparse_room : (s : Set Held) → scope_fits s ≡ true → (is : List ℕ)
      → entries (set_and_remove_sparse ranged t s is).log ≤ capacity t.set.numbers
  unfolding step
  sparse_room s e is = capacity_few (call_set_and_remove_sparse 0 0 is) (handed (s ∷ []) (t ∷ [])) tt (rw (fits, e))
