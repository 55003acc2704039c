-- Merges that are computed: a table to look at. An entry is told by its index and by whose it is.
use Rattle.model.specs.Prelude.{ℕ, refl, true, false, []}
use Rattle.model.specs.{declared.PendingTransition.PendingTransition, Refusals.tracker_index, Representation.select}
use Rattle.std.specs.Prelude.{◌≡◌, ◌∷◌}
use Rattle.log_merge.specs.declared.Rest.TheVariants.{Second}
use Rattle.texture_barrier.specs.Entries.{read, entries_of}
use Rattle.log_merge.specs.{Merge.{merge, ahead, rises_from, below, last_of, first_count, second_count}, Calls.{rest_at, in_order}}

-- an entry of the first recorder with index i, and one of the second
abbrev one : ℕ → PendingTransition
one i = record { index = tracker_index i; selector = select 0 1 0 1; old = 1; new = 2 }

abbrev two : ℕ → PendingTransition
two i = record { index = tracker_index i; selector = select 0 1 0 1; old = 4; new = 8 }

-- the second is used up, its last index below the first's
pub second_used_up : merge (one 1 ∷ one 3 ∷ one 5 ∷ []) (two 2 ∷ two 3 ∷ [])
    ≡ record { merged = one 1 ∷ two 2 ∷ one 3 ∷ two 3 ∷ []; first = one 5 ∷ []; second = [] }
unfolding merge ahead
second_used_up = refl

-- equal last indices: the first is used up, and the second's last is left
pub equal_ends : merge (one 1 ∷ one 2 ∷ []) (two 1 ∷ two 2 ∷ [])
    ≡ record { merged = one 1 ∷ two 1 ∷ one 2 ∷ []; first = []; second = two 2 ∷ [] }
unfolding merge ahead
equal_ends = refl

-- by the closed form: two of the first and one of the second
pub equal_counts : (first_count (one 1 ∷ one 2 ∷ []) (two 1 ∷ two 2 ∷ []) ≡ 2)
    × (second_count (one 1 ∷ one 2 ∷ []) (two 1 ∷ two 2 ∷ []) ≡ 1)
unfolding first_count second_count below last_of
equal_counts = (refl, refl)

-- one log is empty: nothing is merged
pub one_empty : merge [] (two 0 ∷ []) ≡ record { merged = []; first = []; second = two 0 ∷ [] }
unfolding merge
one_empty = refl

-- both are empty: "the empty end of the second"
pub both_empty : rest_at (merge [] []) [] [] ≡ Second 0
unfolding merge
both_empty = refl

-- equals are in order, a descent is not, nor are eight numbers
pub in_order_lem : (in_order (1 ∷ 0 ∷ 1 ∷ 0 ∷ 1 ∷ 1 ∷ 2 ∷ 1 ∷ 0 ∷ 1 ∷ 0 ∷ 1 ∷ 4 ∷ 8 ∷ []) ≡ true)
    × ((in_order (1 ∷ 0 ∷ 1 ∷ 0 ∷ 1 ∷ 1 ∷ 2 ∷ 0 ∷ 0 ∷ 1 ∷ 0 ∷ 1 ∷ 4 ∷ 8 ∷ []) ≡ false)
    × (in_order (1 ∷ 0 ∷ 1 ∷ 0 ∷ 1 ∷ 1 ∷ 2 ∷ 1 ∷ []) ≡ false))
unfolding in_order entries_of read rises_from
in_order_lem = (refl, (refl, refl))
