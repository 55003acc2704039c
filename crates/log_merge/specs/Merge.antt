-- Two logs merged into one: THE DEFINITION. Over entries; `merge_of` reads borrowed numbers as entries.
use Rattle.std.specs.Prelude.{◌+◌, ◌∷◌, ◌++◌, if◌then◌else◌}
use Rattle.model.specs.Prelude.{ℕ, Bool, true, false, List, [], ltb, length}
use Rattle.model.specs.{declared.PendingTransition.PendingTransition}
use Rattle.texture_barrier.specs.Entries.{entries_of}

-- the index of an entry
abbrev pub index_of : PendingTransition → ℕ
index_of e = e.index.0

-- what goes into the third log, and what is left of the first and of the second
pub record Merge : Type 0 where
  pub merged : List PendingTransition
  pub first : List PendingTransition
  pub second : List PendingTransition

-- an entry, and then the rest of a merge
abbrev pub put : PendingTransition → Merge → Merge
put e m = record { merged = e ∷ m.merged; first = m.first; second = m.second }

-- the first log is a and then s, of which `next` merges s alone: "the first recorder's entry going first on equal index"
unfoldable pub ahead : PendingTransition → List PendingTransition → (List PendingTransition → Merge) → List PendingTransition → Merge
ahead a s next [] = record { merged = []; first = a ∷ s; second = [] }
ahead a s next (b ∷ t) = if ltb (index_of b) (index_of a) then put b (ahead a s next t) else put a (next (b ∷ t))

-- "Merge them into a third until one is used up"
unfoldable pub merge : List PendingTransition → List PendingTransition → Merge
unfolding ahead
merge [] t = record { merged = []; first = []; second = t }
merge (a ∷ s) t = ahead a s (merge s) t

-- the merge of two borrowed logs, "their written numbers alone"
abbrev pub merge_of : List ℕ → List ℕ → Merge
merge_of a b = merge (entries_of a) (entries_of b)

-- "the rest of the other log": what is left of both, of which one is used up
abbrev pub rest_of : Merge → List PendingTransition
rest_of m = m.first ++ m.second

-- all entries, in the order in which the driver gets them
abbrev pub all_of : Merge → List PendingTransition
all_of m = m.merged ++ rest_of m

-- ---- "in ascending index", equals allowed
-- no entry's index is below the one before it, and the first's not below x
unfoldable pub rises_from : ℕ → List PendingTransition → Bool
rises_from x [] = true
rises_from x (a ∷ s) = if ltb (index_of a) x then false else rises_from (index_of a) s

abbrev pub ascending : List PendingTransition → Bool
ascending s = rises_from 0 s

-- ---- The closed form
-- 1 for yes, 0 for no
abbrev pub one : Bool → ℕ
one true = 1
one false = 0

-- how many entries have an index below k
unfoldable pub below : ℕ → List PendingTransition → ℕ
below k [] = 0
below k (a ∷ s) = one (ltb (index_of a) k) + below k s

-- the last index of a and then s
unfoldable pub last_of : PendingTransition → List PendingTransition → ℕ
last_of a [] = index_of a
last_of a (b ∷ s) = last_of b s

-- how many entries of the first are merged: those at most the second's last index if that is below the first's, otherwise all; none where
-- one log is empty
unfoldable pub first_count : List PendingTransition → List PendingTransition → ℕ
unfolding below last_of
first_count [] t = 0
first_count (a ∷ s) [] = 0
first_count (a ∷ s) (b ∷ t) = if ltb (last_of b t) (last_of a s) then below (last_of b t + 1) (a ∷ s) else length (a ∷ s)

-- and of the second: all, otherwise those below the first's last index
unfoldable pub second_count : List PendingTransition → List PendingTransition → ℕ
unfolding below last_of
second_count [] t = 0
second_count (a ∷ s) [] = 0
second_count (a ∷ s) (b ∷ t) = if ltb (last_of b t) (last_of a s) then length (b ∷ t) else below (last_of a s) (b ∷ t)
