-- Writing a plan (request 08): which list is turned away, and the bytes of the file.
-- Everything goes by what follows an event, from the end of the list to its front: a group's length stands before what the group holds, and
-- so is known where it is written. specs/Forward says the same of a walk from the front.
use Rattle.std.specs.Prelude.{◌+◌, ◌*◌, ◌-◌, ◌/◌, ◌∷◌, ◌++◌, if◌then◌else◌, Result, Ok, Err}
use Rattle.model.specs.Prelude.{ℕ, zero, suc, List, [], length, take, drop, get_or, ltb, eqb, max}
use Rattle.model.specs.{declared.Refusal.Refusal, declared.Refusal.TheVariants.{GroupsTooDeep, PlanUnbalanced, GroupTooLong, NoFreeEntry}}
use Rattle.plan_file.specs.{Bytes.bytes_in, Plan.{Event, opened, used, closed, other}}

-- ---- The list, from its items: 16 bytes each, the k-th at 16 * k
-- of an opened or closed item the 15 bytes are not read
abbrev pub event_of : ℕ → List ℕ → Event
event_of kind p = if eqb kind 1 then opened else if eqb kind 2 then used p else if eqb kind 3 then closed else other

-- the i-th item
abbrev pub event_at : List ℕ → ℕ → Event
event_at l i = event_of (get_or l (16 * i) 0) (take 15 (drop (16 * i + 1) l))

-- m events, from the i-th on
unfoldable pub events_from : List ℕ → ℕ → ℕ → List Event
events_from l zero i = []
events_from l (suc m) i = event_at l i ∷ events_from l m (suc i)

-- all of them: a rest of fewer than 16 bytes is no item
abbrev pub events_of : List ℕ → List Event
events_of l = events_from l (length l / 16) 0

-- ---- Balanced: every group that is opened is closed, and none is closed that was not opened
-- from an event on, 0: not balanced, whatever stands before it; 1 + k: k groups are closed that are opened before it
abbrev pub level_at : Event → ℕ → ℕ
level_at opened k = k - 1
level_at (used p) k = k
level_at closed k = if eqb k 0 then 0 else k + 1
level_at other k = 0

-- so of a list: it is balanced if this is 1
unfoldable pub levels : List Event → ℕ
levels [] = 1
levels (e ∷ es) = level_at e (levels es)

-- the most levels anywhere, the file itself counted: with eight groups one in another, 9
unfoldable pub deepest : List Event → ℕ
deepest [] = 1
deepest (e ∷ es) = max (levels (e ∷ es)) (deepest es)

-- ---- The bytes
-- "a one-byte tag and a two-byte length"
abbrev pub head : ℕ → ℕ → List ℕ
head tag n = tag ∷ bytes_in 2 n

-- bytes in front of the innermost group's
abbrev pub on_top : List ℕ → List (List ℕ) → List (List ℕ)
on_top x [] = []
on_top x (g ∷ gs) = (x ++ g) ∷ gs

-- the end of a group: what it holds, nothing yet, before what the group round it holds
abbrev pub push : List (List ℕ) → List (List ℕ)
push [] = []
push (g ∷ gs) = [] ∷ (g ∷ gs)

-- a group is whole: with its tag and length it stands in the one round it
abbrev pub shut : List (List ℕ) → List (List ℕ)
shut [] = []
shut (g ∷ []) = []
shut (g ∷ (h ∷ gs)) = (head 1 (length g) ++ (g ++ h)) ∷ gs

-- what the events write: the bytes in the innermost group that they are in, in the one round it, and so on to the file's own. None: not
-- balanced.
unfoldable pub written : List Event → List (List ℕ)
written [] = [] ∷ []
written (opened ∷ es) = shut (written es)
written (used p ∷ es) = on_top (head 2 15 ++ p) (written es)
written (closed ∷ es) = push (written es)
written (other ∷ es) = []

-- the innermost group's
abbrev pub top : List (List ℕ) → List ℕ
top [] = []
top (g ∷ gs) = g

-- how many bytes the longest group holds, its own tag and length not counted: a group is measured where it is opened
abbrev pub width_at : Event → List (List ℕ) → ℕ → ℕ
width_at opened st w = max w (length (top st))
width_at (used p) st w = w
width_at closed st w = w
width_at other st w = w

-- so of a list
unfoldable pub widest : List Event → ℕ
widest [] = 0
widest (e ∷ es) = width_at e (written es) (widest es)

-- ---- The file, or a refusal
pub data Wrote : Type 0 where
  wrote : List ℕ → Wrote
  not : Refusal → Wrote

-- "in writing 24 unbalanced list, 23, then 25 group above 65,535 bytes", each over the whole list
unfoldable pub write_plan : List Event → Wrote
write_plan es =
    if eqb (levels es) 1 then
    (if ltb 9 (deepest es) then not GroupsTooDeep
    else if ltb 65535 (widest es) then not GroupTooLong
    else wrote (top (written es)))
    else not PlanUnbalanced

-- what the writer answers, with the file l borrowed: "15 last"
unfoldable pub answer_to : Wrote → List ℕ → Result ℕ Refusal
answer_to (not r) l = Err r
answer_to (wrote f) l = if ltb (length l) (length f) then Err NoFreeEntry else Ok (length f)

-- and what l then holds: the bytes, and past them what was there; a refusal changes nothing
unfoldable pub left_to : Wrote → List ℕ → List ℕ
left_to (not r) l = l
left_to (wrote f) l = if ltb (length l) (length f) then l else f ++ drop (length f) l
