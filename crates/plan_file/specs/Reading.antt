-- The contracts of the reader: of `read`, and of the functions beneath it, whose definitions go the code's way.
use Rattle.std.specs.Prelude.{◌+◌, ◌*◌, ◌-◌, ◌/◌, ◌≤◌, ◌≡◌, ◌∷◌, ◌++◌, if◌then◌else◌, Option, Some, None, Result, Ok, Err, IfOk}
use Rattle.model.specs.Prelude.{ℕ, suc, false, List, [], eqb, ltb, length, take, drop}
use Rattle.model.specs.declared.Refusal.{Refusal, TheVariants.{UnknownTag, GroupsTooDeep}}
use Rattle.plan_file.specs.{declared.kinds.Tag.{Tag, TheVariants.{Group, Use}}, Kinds.tag_kind}
use Rattle.plan_file.specs.Plan.{Event, Read, took, no, tag_of, cut_short, as_use, around, run, content, size_of, item, answer_of, left_of}
use Rattle.plan_file.specs.Plan.{read_plan}

-- ---- `read`
-- a file was read into the borrowed items: answer and items are the definition's
pub record PlanRead (f l : List ℕ) (r : Result ℕ Refusal) (m : List ℕ) : Type 0 where
  pub answer : r ≡ answer_of (read_plan f) l
  pub left : m ≡ left_of (read_plan f) l

-- ---- The reader's way
-- each item goes to its place as soon as it is read, if there is room for it: the k-th item of l is written
unfoldable pub put_item : ℕ → List ℕ → List ℕ → List ℕ
put_item k it l = if ltb k (length l / 16) then take (16 * k) l ++ (it ++ drop (16 * k + 16) l) else l

-- items are written from the k-th on
unfoldable pub put_all : ℕ → List Event → List ℕ → List ℕ
put_all k [] l = l
put_all k (e ∷ es) l = put_all (suc k) es (put_item k (item e) l)

-- what a reader tells of bytes that read as `rd`: how many items there are then, and what they hold
abbrev pub CameAs : Read → ℕ → List ℕ → Result ℕ Refusal → List ℕ → Type 0
CameAs (took es) k l r m = (r ≡ Ok (k + length es)) × (m ≡ put_all k es l)
CameAs (no e) k l r m = r ≡ Err e

-- the same, as a record
pub record Came (rd : Read) (k : ℕ) (l : List ℕ) (r : Result ℕ Refusal) (m : List ℕ) : Type 0 where
  pub what : CameAs rd k l r m

-- ---- What each function shows
-- s begins with a field, of this tag and with these bytes, and goes on behind it
pub record FieldSplit (s : List ℕ) (tag : ℕ) (p rest : List ℕ) : Type 0 where
  pub cut : cut_short s ≡ false
  pub kind : tag ≡ tag_of s
  pub bytes : p ≡ content s
  pub on : rest ≡ drop (size_of s) s
  pub long : 3 + length p + length rest ≡ length s

-- what a field is that is not cut short, from its tag and the bytes that it holds
abbrev pub field_by : Option Tag → List ℕ → ℕ → Read
field_by (Some Use) p depth = as_use p
field_by (Some Group) p depth = if eqb depth 0 then no GroupsTooDeep else around (run (depth - 1) p)
field_by None p depth = no UnknownTag

-- a use was read, of which p are the bytes
pub record UseRead (p : List ℕ) (k : ℕ) (l : List ℕ) (r : Result ℕ Refusal) (m : List ℕ) : Type 0 where
  pub came : Came (as_use p) k l r m
  pub few : IfOk r (λ (n : ℕ). n ≤ k + 1)

-- a field was read, of this tag and with the bytes p
pub record FieldRead (tag : ℕ) (p : List ℕ) (depth k : ℕ) (l : List ℕ) (r : Result ℕ Refusal) (m : List ℕ) : Type 0 where
  pub came : Came (field_by (tag_kind tag) p depth) k l r m
  pub few : IfOk r (λ (n : ℕ). n ≤ k + length p + 2)

-- all of s was read, as a run of fields
pub record GroupRead (s : List ℕ) (depth k : ℕ) (l : List ℕ) (r : Result ℕ Refusal) (m : List ℕ) : Type 0 where
  pub came : Came (run depth s) k l r m
  pub few : IfOk r (λ (n : ℕ). n ≤ k + length s)
