-- The loop of `ascends`: what is left to test, from here, is what was to test from the start.
use Rattle.std.specs.Prelude.{◌+◌, ◌*◌, ◌≤◌, ◌<◌, ◌≡◌, ◌∷◌}
use Rattle.model.specs.Prelude.{ℕ, false, List, length, get_or, drop}
use Rattle.model.specs.Prelude.{le-ltb, le-leb, lt-leb}
use Rattle.model.specs.{declared.Range.Range, RangeCalls.ascends}
use Rattle.range_states.specs.View.{view, decode, blank}
use Rattle.range_states.proofs.Inserting.{next_is}

-- what is left to test at k, where the last range ended at `from`
pub record Testing (l : List ℕ) (len k from : ℕ) : Type 0 where
  pub left : ascends from (drop k (decode len l)) ≡ ascends 0 (decode len l)

module _ {l : List ℕ} {len k from : ℕ} {x : Range} (room : 3 * len ≤ length l) (j : Testing l len k from) (t : k < len)
    (g : x ≡ get_or (view l) k blank) where
  here : ascends from (x ∷ drop (k + 1) (decode len l)) ≡ ascends 0 (decode len l)
  here = rw (next_is l len k x room t g) at j.left

  pub early : x.start < from → false ≡ ascends 0 (decode len l)
  early h = rw (lt-leb from x.start h) at here

  pub empty : from ≤ x.start → x.end ≤ x.start → false ≡ ascends 0 (decode len l)
  empty h i = rw (le-leb from x.start h, le-ltb x.start x.end i) at here
