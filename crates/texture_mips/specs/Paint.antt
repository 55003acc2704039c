-- The contracts of what gives a run one state.
use Rattle.std.specs.Prelude.{◌*◌, ◌≤◌, ◌≡◌}
use Rattle.model.specs.Prelude.{ℕ, List, length}
use Rattle.model.specs.declared.{Range.Range}
use Rattle.range_states.specs.View.{decode}

-- the first n records of l' are xs; l' is as long as l, and its other numbers are free
pub record Leaves (l : List ℕ) (n : ℕ) (xs : List Range) (l' : List ℕ) : Type 0 where
  pub long : length l' ≡ length l
  pub fits : 3 * n ≤ length l
  pub seen : decode n l' ≡ xs
