-- What is lent for a set, the set that it holds, and whether that is well formed. Nothing is asked of the numbers, nor of how many they
-- are.
use Rattle.std.specs.Prelude.{◌/◌}
use Rattle.model.specs.Prelude.{ℕ, Bool, List, length}
use Rattle.model.specs.{Sets.{Set, Tracker}, Texture.Held, WellFormed.{well_formed_scope, well_formed_tracker}}
use Rattle.set_storage.specs.Storage.{scope_of, tracker_of}

-- for a scope: a table and the ranges
pub record LentScope : Type 0 where
  pub table : List ℕ
  pub ranges : List ℕ

-- for a tracker: a table, the start's ranges and the end's
pub record LentTracker : Type 0 where
  pub table : List ℕ
  pub starts : List ℕ
  pub ends : List ℕ

-- the scope that the numbers hold
abbrev pub scope_in : LentScope → Set Held
scope_in s = scope_of s.table s.ranges

-- and the tracker
abbrev pub tracker_in : LentTracker → Tracker Held
tracker_in t = tracker_of t.table t.starts t.ends

-- whether a scope is well formed, with the room that is lent for it (01: sound)
abbrev pub scope_test : LentScope → Bool
scope_test s = well_formed_scope (length s.ranges / 3) (scope_in s)

-- and a tracker
abbrev pub tracker_test : LentTracker → Bool
tracker_test t = well_formed_tracker (length t.starts / 3) (length t.ends / 3) (tracker_in t)
