-- The contract of `iter_filter`, over the model's `iter_filter`.
use Rattle.std.specs.Prelude.{◌≤◌, ◌≡◌, ◌&&◌}
use Rattle.model.specs.Prelude.{ℕ, min, max, Bool, List, ltb, length}
use Rattle.model.specs.{declared.Range.Range, RangedStates.{range, iter_filter}}
use Rattle.range_states.specs.View.{decode, Becomes}

-- `inner.end > range.start && inner.start < range.end`
unfoldable pub overlaps : ℕ → ℕ → Range → Bool
overlaps a e r = ltb a r.end && ltb r.start e

-- `inner.start.max(range.start)..inner.end.min(range.end)`
abbrev pub clip : ℕ → ℕ → Range → Range
clip a e r = range (max r.start a) (min r.end e) r.state

-- how many ranges `iter_filter` lists
pub record Counted (l : List ℕ) (len a e r : ℕ) : Type 0 where
  pub few : r ≤ len
  pub is : r ≡ length (iter_filter a e (decode len l))

-- "lists overlaps clipped into a second lent run, from its first record on, and tells how many": m is that run, r how many
pub record Filtered (l : List ℕ) (len a e : ℕ) (m : List ℕ) (r : ℕ) (m' : List ℕ) : Type 0 where
  pub few : r ≤ len
  pub count : r ≡ length (iter_filter a e (decode len l))
  pub into : Becomes m r (iter_filter a e (decode len l)) m'
