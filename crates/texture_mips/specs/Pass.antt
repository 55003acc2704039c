-- A pass that changes each range in turn and stops at the first where a test says so: the contract of a loop over a run.
use Rattle.std.specs.Prelude.{◌+◌, ◌≤◌, ◌≡◌, ◌∷◌, ◌++◌, if◌then◌else◌}
use Rattle.model.specs.Prelude.{ℕ, zero, suc, Bool, List, [], drop}
use Rattle.model.specs.{declared.Range.Range}
use Rattle.range_states.specs.View.{decode, Becomes}

-- each element changed by f, up to the first at which `stop` holds; and how many those are
module _ {A : Type 0} (stop : A → Bool) (f : A → A) where
  unfoldable pub passed : List A → List A
  passed [] = []
  passed (x ∷ l) = if stop x then x ∷ l else f x ∷ passed l

  unfoldable pub passed_count : List A → ℕ
  passed_count [] = zero
  passed_count (x ∷ l) = if stop x then zero else suc (passed_count l)

-- the records from `from` up to `to` are passed over, and r is where that stopped
pub record Passed (stop : Range → Bool) (f : Range → Range) (l : List ℕ) (from to r : ℕ) (l' : List ℕ) : Type 0 where
  pub low : from ≤ r
  pub high : r ≤ to
  pub at : r ≡ from + passed_count stop f (drop from (decode to l))
  pub into : Becomes l to (decode from l ++ passed stop f (drop from (decode to l))) l'
