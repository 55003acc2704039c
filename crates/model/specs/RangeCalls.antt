-- 01, "Strips": the three calls on a lent run of range records, of which the first `told` are in use.
use Rattle.std.specs.Prelude.{◌-◌, ◌&&◌, ◌||◌, ◌∷◌, ◌++◌}
use Rattle.model.specs.Prelude.{ℕ, Bool, true, not, Option, List, [], leb, ltb, length, take, drop}
use Rattle.model.specs.Prelude.{replicate}
use Rattle.model.specs.{declared.Refusal.TheVariants.{RangesOutOfOrder, NoFreeEntry}, declared.{Range.Range, Refusal.Refusal}}
use Rattle.model.specs.Refusals.{Check, check, first_failing, layers_checks}
use Rattle.model.specs.RangedStates.{range, list_of, isolate, coalesce, iter_filter}

-- no range is empty, out of order or overlaps
abbrev pub ascends : ℕ → List Range → Bool
ascends from [] = true
ascends from (r ∷ s) = leb from r.start && ltb r.start r.end && ascends r.end s

-- ---- "Strip calls use only 10, 14 and 15, in the table's order, with any 32-bit ends"; in 10's place they "give the layer numbers"
-- 14: "its told length passes what was lent, or a range is empty, out of order or overlaps"
abbrev pub ranges_check : ℕ → List Range → Check
ranges_check told rs = check (ltb (length rs) told || not (ascends 0 (take told rs))) RangesOutOfOrder

-- 18, 19, and then 14
abbrev pub run_checks : ℕ → ℕ → ℕ → List Range → List Check
run_checks a e told rs = layers_checks a e ++ (ranges_check told rs ∷ [])

-- 15: "the result needs more entries than are free"
abbrev pub room_checks : ℕ → ℕ → List Check
room_checks needed lent = check (ltb lent needed) NoFreeEntry ∷ []

-- ---- `isolate`
-- "the run's position and count", "the strip's new length", and the records afterwards
pub record Isolated : Type 0 where
  pub position : ℕ
  pub count : ℕ
  pub told : ℕ
  pub records : List Range

-- 18, 19, 14, and 15 for all ranges that it leaves
abbrev pub isolate_refusal : ℕ → ℕ → ℕ → ℕ → List Range → Option Refusal
isolate_refusal a e d told rs =
    first_failing (run_checks a e told rs ++ room_checks (length (list_of (isolate a e d (take told rs)))) (length rs))

-- "makes the index a run of ranges of its own, gaps filled with the default"; records past the new length stay
abbrev pub isolated : ℕ → ℕ → ℕ → ℕ → List Range → Isolated
isolated a e d told rs =
    let c = isolate a e d (take told rs) in let n = length (list_of c) in
    record { position = length c.before; count = length c.run; told = n; records = list_of c ++ drop n rs }

-- ---- `coalesce`
-- "the strip's new length", and the records afterwards
pub record Coalesced : Type 0 where
  pub told : ℕ
  pub records : List Range

-- 14 alone: it has no index and needs no room
abbrev pub coalesce_refusal : ℕ → List Range → Option Refusal
coalesce_refusal told rs = first_failing (ranges_check told rs ∷ [])

-- "joins touching equals; records it frees become zeros"
abbrev pub coalesced : ℕ → List Range → Coalesced
coalesced told rs =
    let s = coalesce (take told rs) in
    record { told = length s; records = s ++ (replicate (told - length s) (range 0 0 0) ++ drop told rs) }

-- ---- `iter_filter`
-- how many overlaps there are, and the records of the second run afterwards
pub record Filtered : Type 0 where
  pub count : ℕ
  pub output : List Range

-- 18, 19, 14, and 15 for the second run
abbrev pub filter_refusal : ℕ → ℕ → ℕ → List Range → List Range → Option Refusal
filter_refusal a e told rs out =
    first_failing (run_checks a e told rs ++ room_checks (length (iter_filter a e (take told rs))) (length out))

-- "lists overlaps clipped into a second lent run, from its first record on, and tells how many; the strip stays"
abbrev pub filtered : ℕ → ℕ → ℕ → List Range → List Range → Filtered
filtered a e told rs out =
    let s = iter_filter a e (take told rs) in record { count = length s; output = s ++ drop (length s) out }
