-- What the merge itself does: the entries of two logs written until one of them is used up.
use Rattle.model.specs.Prelude.{ℕ, List, length}
use Rattle.std.specs.Prelude.{◌+◌, ◌*◌, ◌%◌, ◌≤◌, ◌≡◌}
use Rattle.texture_barrier.specs.Entries.{Added}
use Rattle.log_merge.specs.{declared.Rest.Rest, Merge.merge_of, Calls.rest_at}

-- two logs of whole entries, and room for those that are merged, after the third's first n entries
pub record Weavable (a b l : List ℕ) (n : ℕ) : Type 0 where
  pub first : length a % 7 ≡ 0
  pub second : length b % 7 ≡ 0
  pub room : 7 * (n + length (merge_of a b).merged) ≤ length l

pub record Weaves (a b l : List ℕ) (n : ℕ) (r : Rest) (l' : List ℕ) : Type 0 where
  pub added : Added l n (merge_of a b).merged l'
  pub rest : r ≡ rest_at (merge_of a b) a b
