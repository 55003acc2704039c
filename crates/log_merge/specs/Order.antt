-- What is told before a merge writes: how many entries of a log that ascends are below an index, and how many entries a merge of two logs
-- writes.
use Rattle.std.specs.Prelude.{◌≡◌, ◌&&◌, MatchOption}
use Rattle.model.specs.Prelude.{ℕ, true, false, Option, List, length}
use Rattle.model.specs.{declared.PendingTransition.PendingTransition}
use Rattle.log_merge.specs.{Merge.{merge_of, ascending, below}, Calls.in_order}

-- the count is told where the log ascends
abbrev pub Scans : List PendingTransition → ℕ → Option ℕ → Type 0
Scans s limit x = MatchOption x (ascending s ≡ false) (λ n. (ascending s ≡ true) × (n ≡ below limit s))

-- of the two logs a and b: 31, and how many entries a merge writes where they are in order
abbrev pub Needs : List ℕ → List ℕ → Option ℕ → Type 0
Needs a b x =
    MatchOption x ((in_order a && in_order b) ≡ false) (λ n. ((in_order a && in_order b) ≡ true) × (n ≡ length (merge_of a b).merged))
