-- "More room is ignored", of the public calls' own contracts: what no call changes, whatever it answers.
use Rattle.std.specs.Prelude.{◌≤◌, ◌<◌, ◌≡◌}
use Rattle.model.specs.Prelude.{ℕ, false, List, get_or, Option}
use Rattle.model.specs.declared.{Extent.Extent, LogHead.LogHead, Selector.Selector}
use Rattle.model.specs.{declared.{TrackerIndex.TrackerIndex}, Log.is_refused}
use Rattle.set_storage.specs.{Storage.{numbers_of, table_indices, ranges_at, textures_at}, Stays.{Only, OwnedBy, ScopeFrame, TrackerFrame}}
use Rattle.set_storage.specs.Lent.{LentScope, LentTracker}
use Rattle.set_ready.specs.Named.{Within, WordsStay, scope_room, scope_past, scope_unnamed, tracker_room, tracker_past, tracker_unnamed}
use Rattle.call_remove.specs.{Gone.{Listed, disowned}, Removed.SetAndRemoveSparse}
use Rattle.call_merge.specs.Contract.{MergeSingle, MergeUsageScope}
use Rattle.call_set.specs.Contract.{SetSingle}
use Rattle.call_join.specs.Contract.{SetFromUsageScope, SetFromTracker}
use Rattle.model.specs.Log.{Answered, Outcome}

-- ---- Of a scope: every number from 3 × N × M × W on, every word of an index from N on, every word of a texture that is not named
pub record ScopeUntouched (named : ℕ → Type 0) (s s' : LentScope) : Type 0 where
  pub room : (y : ℕ) → ranges_at (numbers_of s.table) (get_or s.table textures_at 0) ≤ y → get_or s'.ranges y 0 ≡ get_or s.ranges y 0
  pub past : (j : ℕ) → get_or s.table textures_at 0 ≤ j → j < table_indices → WordsStay j s.table s'.table
  pub others : (j : ℕ) → j < table_indices → ((i : ℕ) → named i → j ≡ i → ⊥) → WordsStay j s.table s'.table

untouched : {named : ℕ → Type 0} (s s' : LentScope)
    → ScopeFrame (Within s.table named) (numbers_of s.table) s.table s.ranges s'.table s'.ranges
    → ScopeUntouched named s s'
untouched s s' f = record { room = scope_room f; past = scope_past f; others = scope_unnamed f }

pub merge_single_leaves : (s s' : LentScope) (i : TrackerIndex) (sh : Extent) (q : Option Selector) (st : ℕ) (x : Outcome)
    → MergeSingle s i sh q st x s' → ScopeUntouched (Only i.0) s s'
merge_single_leaves s s' i sh q st x c = untouched s s' c.stays

pub merge_usage_scope_leaves : (s s' g : LentScope) (x : Outcome) → MergeUsageScope s g x s' → ScopeUntouched (OwnedBy g.table) s s'
merge_usage_scope_leaves s s' g x c = untouched s s' c.stays

-- ---- Of a tracker: the same, of both its slices
pub record TrackerUntouched (named : ℕ → Type 0) (t t' : LentTracker) : Type 0 where
  pub room : (y : ℕ) → ranges_at (numbers_of t.table) (get_or t.table textures_at 0) ≤ y
      → (get_or t'.starts y 0 ≡ get_or t.starts y 0) × (get_or t'.ends y 0 ≡ get_or t.ends y 0)
  pub past : (j : ℕ) → get_or t.table textures_at 0 ≤ j → j < table_indices → WordsStay j t.table t'.table
  pub others : (j : ℕ) → j < table_indices → ((i : ℕ) → named i → j ≡ i → ⊥) → WordsStay j t.table t'.table

untouched₂ : {named : ℕ → Type 0} (t t' : LentTracker)
    → TrackerFrame (Within t.table named) (numbers_of t.table) t.table t.starts t.ends t'.table t'.starts t'.ends
    → TrackerUntouched named t t'
untouched₂ t t' f = record { room = tracker_room f; past = tracker_past f; others = tracker_unnamed f }

module _ (t t' : LentTracker) (h : LogHead) (l : List ℕ) (x : Answered) (l' : List ℕ) where
  pub set_single_leaves : (i : TrackerIndex) (sh : Extent) (q : Selector) (st : ℕ) → SetSingle t i sh q st h l x t' l'
      → TrackerUntouched (Only i.0) t t'
  set_single_leaves i sh q st c = untouched₂ t t' c.stays

  pub set_from_usage_scope_leaves : (g : LentScope) → SetFromUsageScope t g h l x t' l' → TrackerUntouched (OwnedBy g.table) t t'
  set_from_usage_scope_leaves g c = untouched₂ t t' c.stays

  pub set_from_tracker_leaves : (g : LentTracker) → SetFromTracker t g h l x t' l' → TrackerUntouched (OwnedBy g.table) t t'
  set_from_tracker_leaves g c = untouched₂ t t' c.stays

  -- the scope's table g' is equated
  pub sparse_leaves : (g : LentScope) (is g' : List ℕ) → SetAndRemoveSparse t g is h l x t' g' l'
      → TrackerUntouched (Listed is g.table) t t' × (is_refused x.outcome ≡ false → g' ≡ disowned is g.table)
  sparse_leaves g is g' c = (untouched₂ t t' c.stays, c.gone)
