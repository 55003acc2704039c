-- Plan files (request 08): what a file says, and what the reader does with borrowed items.
-- "Fields have a one-byte tag and a two-byte length, then that many bytes; all numbers go low byte first. Tag 1 is a group, tag 2 a use of
-- 15 bytes. A group holds fields, and a field is a use or a group, groups nested at most eight deep."
use Rattle.std.specs.Prelude.{◌+◌, ◌*◌, ◌-◌, ◌/◌, ◌∷◌, ◌++◌, if◌then◌else◌, Result, Ok, Err}
use Rattle.model.specs.Prelude.{ℕ, zero, suc, Bool, true, List, [], ltb, eqb, length, take, drop, get_or}
use Rattle.model.specs.Prelude.{replicate}
use Rattle.model.specs.declared.Refusal.TheVariants.{FieldCutShort, UnknownTag, UseOfWrongSize, GroupsTooDeep, NoFreeEntry}
use Rattle.model.specs.{declared.Refusal.Refusal}
use Rattle.plan_file.specs.{Bytes.low_first}

-- ---- What a plan is: "a list of opened, use and closed, in file order"; a use has its bytes. `other` is an item of no such kind, which
-- only a list to be written can have.
pub data Event : Type 0 where
  opened : Event
  used : List ℕ → Event
  closed : Event
  other : Event

-- what reading comes to: the events in file order, or why the file is turned away
pub data Read : Type 0 where
  took : List Event → Read
  no : Refusal → Read

-- ---- A field, which the bytes s begin with
-- its tag
abbrev pub tag_of : List ℕ → ℕ
tag_of s = get_or s 0 0

-- how many bytes it holds: its length
abbrev pub length_of : List ℕ → ℕ
length_of s = low_first (get_or s 1 0 ∷ get_or s 2 0 ∷ [])

-- how many bytes it takes, tag and length with them
abbrev pub size_of : List ℕ → ℕ
size_of s = 3 + length_of s

-- the bytes that it holds
abbrev pub content : List ℕ → List ℕ
content s = take (length_of s) (drop 3 s)

-- "a tag and length cut short, or a length past its group or the file": s ends where its group does, or the file
abbrev pub cut_short : List ℕ → Bool
cut_short s = if ltb (length s) 3 then true else ltb (length s - 3) (length_of s)

-- a use, from the bytes that its field holds: 22 if they are not 15
abbrev pub as_use : List ℕ → Read
as_use p = if eqb (length p) 15 then took (used p ∷ []) else no UseOfWrongSize

-- a group, from what it holds
abbrev pub around : Read → Read
around (took es) = took (opened ∷ (es ++ (closed ∷ [])))
around (no r) = no r

-- one thing read after another: what is told is told "at the first field where one fits"
abbrev pub after : Read → Read → Read
after (took a) (took b) = took (a ++ b)
after (took a) (no r) = no r
after (no r) b = no r

-- a field, where `depth` groups may still be nested, from what it holds one level down. "In this order": 20 is first, and no two others
-- meet
unfoldable pub field : Read → ℕ → List ℕ → Read
field inside depth s =
    if cut_short s then no FieldCutShort
    else if eqb (tag_of s) 2 then as_use (content s)
    else if eqb (tag_of s) 1 then (if eqb depth 0 then no GroupsTooDeep else around inside)
    else no UnknownTag

-- a run of fields: field after field to the end of s, at most n of them (n is never short: `enough` of ReadingLaws)
unfoldable pub fields : ℕ → ℕ → List ℕ → Read
fields zero depth s = took []
fields (suc n) depth [] = took []
fields (suc n) depth (b ∷ s) =
    after (field (fields n (depth - 1) (content (b ∷ s))) depth (b ∷ s)) (fields n depth (drop (size_of (b ∷ s)) (b ∷ s)))

-- all of s
abbrev pub run : ℕ → List ℕ → Read
run depth s = fields (length s) depth s

-- a file: "groups nested at most eight deep"; "the empty file is the empty plan"
abbrev pub read_plan : List ℕ → Read
read_plan f = run 8 f

-- ---- Items, 16 bytes each: a kind, 1 opened, 2 use, 3 closed, and the bytes of the use, or 15 times 0
abbrev pub item : Event → List ℕ
item opened = 1 ∷ replicate 15 0
item (used p) = 2 ∷ p
item closed = 3 ∷ replicate 15 0
item other = replicate 16 0

-- one after another
abbrev pub items : List Event → List ℕ
items [] = []
items (e ∷ es) = item e ++ items es

-- what the reader answers of a file, with the items l borrowed: "15 last"
unfoldable pub answer_of : Read → List ℕ → Result ℕ Refusal
answer_of (no r) l = Err r
answer_of (took es) l = if ltb (length l / 16) (length es) then Err NoFreeEntry else Ok (length es)

-- and what l then holds: the items, and past them what was there; a refusal changes nothing
unfoldable pub left_of : Read → List ℕ → List ℕ
left_of (no r) l = l
left_of (took es) l = if ltb (length l / 16) (length es) then l else items es ++ drop (16 * length es) l
