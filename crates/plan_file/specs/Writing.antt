-- The contracts of the writer: of `write`, and of the functions beneath it, whose definitions go the code's way.
use Rattle.std.specs.Prelude.{◌+◌, ◌≤◌, ◌≡◌, ◌∷◌, ◌++◌, if◌then◌else◌, Result, Ok, Err}
use Rattle.model.specs.Prelude.{ℕ, List, [], length, take, drop, ltb, leb, eqb}
use Rattle.model.specs.{declared.Refusal.Refusal, declared.Refusal.TheVariants.{GroupsTooDeep, PlanUnbalanced}}
use Rattle.plan_file.specs.Plan.{Event, opened, used, closed, other}
use Rattle.plan_file.specs.Write.{events_of, levels, deepest, written, top, widest, write_plan, answer_to, left_to}

-- ---- `write`
-- the list was written into the borrowed file: answer and file are the definition's
pub record PlanWritten (t l : List ℕ) (r : Result ℕ Refusal) (m : List ℕ) : Type 0 where
  pub answer : r ≡ answer_to (write_plan (events_of t)) l
  pub left : m ≡ left_to (write_plan (events_of t)) l

-- ---- The writer's way
-- how many bytes an event adds to the file
abbrev pub cost : Event → ℕ
cost opened = 3
cost (used p) = 18
cost closed = 0
cost other = 0

-- and a list
unfoldable pub costs : List Event → ℕ
costs [] = 0
costs (e ∷ es) = cost e + costs es

-- bytes are written at p, if they fit
unfoldable pub put_at : ℕ → List ℕ → List ℕ → List ℕ
put_at p x l = if leb (p + length x) (length l) then take p l ++ (x ++ drop (p + length x) l) else l

-- ---- What each function shows
-- what judging a list comes to: 24, then 23, or how many bytes it makes
unfoldable pub judged : List Event → Result ℕ Refusal
judged es = if eqb (levels es) 1 then (if ltb 9 (deepest es) then Err GroupsTooDeep else Ok (costs es)) else Err PlanUnbalanced

-- the list was measured and, where l has room for all of it, laid out there; of a shorter l nothing is said
pub record Laid (es : List Event) (total : ℕ) (l : List ℕ) (r : ℕ) (m : List ℕ) : Type 0 where
  pub width : r ≡ widest es
  pub bytes : total ≤ length l → m ≡ top (written es) ++ drop total l

-- a list that passes 24 and 23, with the length of its file
pub record Fine (es : List Event) (total : ℕ) : Type 0 where
  pub level : levels es ≡ 1
  pub deep : deepest es ≤ 9
  pub cost : total ≡ costs es
