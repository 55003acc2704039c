-- The uses of a plan as numbers: THE DEFINITION of `uses`, its contract, and uses that are computed.
use Rattle.std.specs.Prelude.{◌*◌, ◌/◌, ◌≡◌, ◌∷◌, ◌++◌, if◌then◌else◌, Result, Ok, Err}
use Rattle.model.specs.Prelude.{ℕ, suc, refl, Bool, true, false, List, [], ltb, length, take, drop, replicate}
use Rattle.model.specs.{declared.Refusal.Refusal, declared.Refusal.TheVariants.NoFreeEntry}
use Rattle.plan_file.specs.{Bytes.low_first}
use Rattle.plan_file.specs.{Plan.{Event, opened, used, closed, other}, Write.{events_from, events_of}}

-- ---- One use
-- "index 4, mips 1, layers 2, mip start 1, mip end 1, layer start 2, layer end 2, state 2"
abbrev pub widths : List ℕ
widths = 4 ∷ 1 ∷ 2 ∷ 1 ∷ 1 ∷ 2 ∷ 2 ∷ 2 ∷ []

-- numbers of these widths, one after another
unfoldable pub numbers_by : List ℕ → List ℕ → List ℕ
numbers_by [] p = []
numbers_by (w ∷ ws) p = low_first (take w p) ∷ numbers_by ws (drop w p)

-- the eight numbers of a use's 15 bytes
abbrev pub numbers_of : List ℕ → List ℕ
numbers_of p = numbers_by widths p

-- ---- The uses of a plan, in its order: groups add nothing, nor do items of an unknown kind
unfoldable pub uses_of : List Event → List ℕ
uses_of [] = []
uses_of (opened ∷ es) = uses_of es
uses_of (used p ∷ es) = numbers_of p ++ uses_of es
uses_of (closed ∷ es) = uses_of es
uses_of (other ∷ es) = uses_of es

-- whether an event is one
abbrev pub is_use : Event → Bool
is_use opened = false
is_use (used p) = true
is_use closed = false
is_use other = false

-- how many they are
unfoldable pub count_of : List Event → ℕ
count_of [] = 0
count_of (opened ∷ es) = count_of es
count_of (used p ∷ es) = suc (count_of es)
count_of (closed ∷ es) = count_of es
count_of (other ∷ es) = count_of es

-- ---- The call on borrowed numbers l: 15 where there is no room for all uses, and nothing is written then
abbrev pub uses_answer : List Event → List ℕ → Result ℕ Refusal
uses_answer es l = if ltb (length l / 8) (count_of es) then Err NoFreeEntry else Ok (count_of es)

abbrev pub uses_left : List Event → List ℕ → List ℕ
uses_left es l = if ltb (length l / 8) (count_of es) then l else uses_of es ++ drop (8 * count_of es) l

-- THE CONTRACT: the answer, and what the list holds then
pub record UsesListed (items l : List ℕ) (r : Result ℕ Refusal) (l' : List ℕ) : Type 0 where
  pub answer : r ≡ uses_answer (events_of items) l
  pub left : l' ≡ uses_left (events_of items) l

-- ---- Uses that are computed
abbrev one : List ℕ
one = 1 ∷ 2 ∷ 0 ∷ 0 ∷ 3 ∷ 4 ∷ 1 ∷ 0 ∷ 2 ∷ 1 ∷ 0 ∷ 3 ∷ 0 ∷ 16 ∷ 2 ∷ []

-- index 513, mips 3, layers 260, mips from 0 to 2, layers from 1 to 3, state 528
pub one_use_lem : numbers_of one ≡ 513 ∷ 3 ∷ 260 ∷ 0 ∷ 2 ∷ 1 ∷ 3 ∷ 528 ∷ []
unfolding numbers_by
one_use_lem = refl

-- the largest numbers there are
pub largest_use : numbers_of (replicate 15 255) ≡ 4294967295 ∷ 255 ∷ 65535 ∷ 255 ∷ 255 ∷ 65535 ∷ 65535 ∷ 65535 ∷ []
unfolding numbers_by
largest_use = refl

-- a group with the use in it, an item of the unknown kind 4, and three bytes that are no item
pub one_listed : let items = (1 ∷ replicate 15 0) ++ ((2 ∷ one) ++ ((4 ∷ one) ++ ((3 ∷ replicate 15 0) ++ (2 ∷ 2 ∷ 2 ∷ [])))) in
    (count_of (events_of items) ≡ 1) × (uses_of (events_of items) ≡ numbers_of one)
unfolding uses_of count_of events_from numbers_by
one_listed = (refl, refl)
