-- The contracts of `isolate` and of its parts, over the model's `isolate` and `isolate_from`.
use Rattle.std.specs.Prelude.{◌+◌, ◌-◌, ◌*◌, ◌≤◌, ◌<◌, ◌≡◌, ◌∷◌, ◌++◌, if◌then◌else◌}
use Rattle.model.specs.Prelude.{ℕ, zero, suc, max, List, [], leb, ltb, length, drop}
use Rattle.model.specs.{declared.Range.Range, RangedStates.{range, Rest, rest, list_of, isolate_from, isolate}}
use Rattle.range_isolate.specs.{declared.isolation.Placed.Placed, declared.isolation.Isolated.Isolated}
use Rattle.range_states.specs.View.{decode, Becomes}

-- the run and what follows it
abbrev pub all_of : Rest → List Range
all_of c = c.run ++ c.after

-- ---- The parts of the Rust's loop
-- "gaps filled with the default": what stands between a and b, and how many ranges that is
abbrev pub gap_before : ℕ → ℕ → ℕ → List Range
gap_before d a b = if ltb a b then range a b d ∷ [] else []

abbrev pub gap_count : ℕ → ℕ → ℕ
gap_count a b = if ltb a b then 1 else 0

-- `if range.end >= index.end`: the last range of the run, cut at e if it ends past it, and how many ranges that adds
abbrev pub last_of : ℕ → ℕ → Range → List Range → Rest
last_of a e x s = if ltb e x.end then rest (range a e x.state ∷ []) (range e x.end x.state ∷ s) else rest (x ∷ []) s

abbrev pub cut_count : ℕ → Range → ℕ
cut_count e x = gap_count e x.end

abbrev pub last_in : ℕ → ℕ → List Range → List Range
last_in a e [] = []
last_in a e (x ∷ s) = all_of (last_of a e x s)

-- `position(|pair| pair.0.end > index.start)`, or the length
unfoldable pub first_past : ℕ → List Range → ℕ
first_past x [] = zero
first_past x (r ∷ l) = if ltb x r.end then zero else suc (first_past x l)

-- `if range.start < index.start`: the first range cut at x if it starts before x, and how many ranges that adds
unfoldable pub cut_first : ℕ → List Range → List Range
cut_first x [] = []
cut_first x (r ∷ l) = if ltb r.start x then range r.start x r.state ∷ range x r.end r.state ∷ l else r ∷ l

unfoldable pub lead_count : ℕ → List Range → ℕ
lead_count x [] = 0
lead_count x (r ∷ l) = gap_count r.start x

-- ---- The contracts of the parts
pub record Gapped (l : List ℕ) (len pos at start d r : ℕ) (l' : List ℕ) : Type 0 where
  pub few : r ≤ 1
  pub added : r ≡ gap_count at start
  pub into : Becomes l (len + r) (decode pos l ++ (gap_before d at start ++ drop pos (decode len l))) l'

pub record EndCut (l : List ℕ) (len pos at e r : ℕ) (l' : List ℕ) : Type 0 where
  pub few : r ≤ 1
  pub fits : 3 * (len + r) ≤ length l
  pub into : Becomes l (len + r) (decode pos l ++ last_in at e (drop pos (decode len l))) l'

pub record Found (l : List ℕ) (len x r : ℕ) : Type 0 where
  pub few : r ≤ len
  pub is : r ≡ first_past x (decode len l)

pub record StartCut (l : List ℕ) (len pos x r : ℕ) (l' : List ℕ) : Type 0 where
  pub few : r ≤ 1
  pub added : r ≡ lead_count x (drop pos (decode len l))
  pub into : Becomes l (len + r) (decode pos l ++ cut_first x (drop pos (decode len l))) l'

-- the room that the loop needs: exactly that of its result
pub record CoverRoom (l : List ℕ) (len pos at e d : ℕ) : Type 0 where
  pub fits : 3 * len ≤ length l
  pub grown : 3 * (pos + length (all_of (isolate_from at e d (drop pos (decode len l))))) ≤ length l

pub record Covered (l : List ℕ) (len pos at e d : ℕ) (r : Placed) (l' : List ℕ) : Type 0 where
  pub low : len ≤ r.len
  pub fits : 3 * r.len ≤ length l
  pub some : pos < r.end
  pub in_all : r.end ≤ r.len
  pub end : r.end ≡ pos + length (isolate_from at e d (drop pos (decode len l))).run
  pub into : Becomes l r.len (decode pos l ++ all_of (isolate_from at e d (drop pos (decode len l)))) l'

-- ---- The contract of `isolate`: "makes the index a run of ranges of its own .. and tells the run's position and count"
-- the room that it needs: exactly that of the result
pub record IsolateRoom (l : List ℕ) (len a e d : ℕ) : Type 0 where
  pub fits : 3 * len ≤ length l
  pub grown : 3 * length (list_of (isolate a e d (decode len l))) ≤ length l

pub record Isolating (l : List ℕ) (len a e d : ℕ) (r : Isolated) (l' : List ℕ) : Type 0 where
  pub low : len ≤ r.len
  pub fits : 3 * r.len ≤ length l
  pub some : r.position < r.end
  pub in_all : r.end ≤ r.len
  pub position : r.position ≡ length (isolate a e d (decode len l)).before
  pub end : r.end ≡ r.position + length (isolate a e d (decode len l)).run
  pub into : Becomes l r.len (list_of (isolate a e d (decode len l))) l'

-- ---- What the counting functions tell
pub record Leading (l : List ℕ) (len pos x r : ℕ) : Type 0 where
  pub few : r ≤ 1
  pub is : r ≡ lead_count x (drop pos (decode len l))

-- how many ranges the loop adds; a first range that starts before a counts as cut at a
unfoldable pub added_by : ℕ → ℕ → List Range → ℕ
added_by a e [] = 1
added_by a e (x ∷ s) = if leb e (max a x.start) then 1
    else gap_count a x.start + (if leb e x.end then cut_count e x else added_by x.end e s)

pub record Added (l : List ℕ) (len pos at e r : ℕ) : Type 0 where
  pub few : r ≤ len - pos + 1
  pub is : r ≡ added_by at e (drop pos (decode len l))
