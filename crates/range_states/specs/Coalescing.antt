-- The contract of `coalesce`: the model's list, and zeros where records were freed.
use Rattle.std.specs.Prelude.{◌-◌, ◌≤◌, ◌<◌, ◌≡◌, ◌++◌}
use Rattle.model.specs.Prelude.{ℕ, List, length, get_or, take, drop, replicate}
use Rattle.model.specs.RangedStates.{coalesce_from, coalesce}
use Rattle.range_states.specs.View.{view, blank, decode, Becomes}

-- none of the records before r joins the one before it, so joining starts with the one at r - 1
pub record Apart (l : List ℕ) (len r : ℕ) : Type 0 where
  pub some : 0 < r
  pub high : r ≤ len
  pub made : take (r - 1) (view l) ++ coalesce_from (get_or (view l) (r - 1) blank) (drop r (decode len l)) ≡ coalesce (decode len l)

-- "`coalesce` joins touching equals; records it frees become zeros": r is the new count
pub record Coalesced (l : List ℕ) (len r : ℕ) (l' : List ℕ) : Type 0 where
  pub few : r ≤ len
  pub count : r ≡ length (coalesce (decode len l))
  pub into : Becomes l len (coalesce (decode len l) ++ replicate (len - r) blank) l'
