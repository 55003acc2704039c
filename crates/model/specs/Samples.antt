-- 01, "Bench samples": B1 to B14 as one table of rows, and one theorem for all of them, by computation.
use Rattle.std.specs.Prelude.{◌≡◌, ◌∷◌}
use Rattle.model.specs.Prelude.{ℕ, refl, Option, None, Some, List, [], map, get_or, length}
use Rattle.model.specs.{declared.{Extent.Extent, Selector.Selector, Range.Range, InvalidUse.InvalidUse}, Base.each}
use Rattle.model.specs.{Flags.incompatible, Representation.{select, full, Ends}, Sets.{Opening, slot_at, open_set, open_tracker}}
use Rattle.model.specs.Refusals.{tracker_index}
use Rattle.model.specs.Calls.{Indexed, Answer, done, in_conflict, CallResult, Call, call_merge_single, call_merge_usage_scope}
use Rattle.model.specs.Calls.{call_set_single, call_set_from_usage_scope, call_set_from_tracker, no_ends, Sets, nothing, step, newly}
use Rattle.model.specs.{StateRules.invalid_state, RangedStates.{range, list_of, isolate}}
use Rattle.model.specs.Texture.{Held, single, many, Entry, invalid_use, ranged, insert, merge, barrier, update}

-- ---- "UNINITIALIZED 1, EXCLUSIVE 20, COMPLEX 4096, UNKNOWN 8192 (U), mask 10; 2 mips, 4 layers."
opening : Opening
opening = record {
  numbers = record { textures = 4; mips = 2; layers = 4 };
  flags = record { exclusive = 20; uninitialized = 1; complex = 4096; unknown = 8192 };
  mask = 10;
  room = 32;
}

extent : Extent
extent = record { mips = 2; layers = 4 }

unknown : ℕ
unknown = 8192

-- mip 0 layers 1..3
part : Selector
part = select 0 1 1 3

-- ---- What is done: calls on two scopes and two trackers, or one isolation
data Doing : Type 0 where
  in_scope in_tracker : List Call → Doing
  isolating : ℕ → ℕ → ℕ → List Range → Doing

-- ---- What is seen: the last call's answer and log, and texture 0 of scope 0 or tracker 0; or the ranges with the run's position and count
data Seen : Type 0 where
  scope : Answer InvalidUse → Held → Seen
  tracker : List Entry → Ends Held → Seen
  ranges : ℕ → ℕ → List Range → Seen

record Row : Type 0 where
  deed : Doing
  gives : Seen

Last : Type 0
Last = CallResult InvalidUse (List Entry) (Sets ranged)

run : List Call → Last → Last
unfolding Last step
run [] o = o
run (c ∷ cs) o = run cs (step ranged c o.after)

opened : Last
unfolding Last newly opening
opened = nothing ranged (newly ranged (opening ∷ opening ∷ []) (opening ∷ opening ∷ []))

outcome : Doing → Seen
unfolding run opened isolate opening
outcome (in_scope cs) =
    let o = run cs opened in scope o.answer (slot_at (single 0) (get_or o.after.scopes 0 (open_set single opening)) 0).held
outcome (in_tracker cs) =
    let o = run cs opened in
    tracker (each (λ (i : Indexed (List Entry)). i.what) o.log)
    (slot_at (no_ends ranged) (get_or o.after.trackers 0 (open_tracker single opening)).set 0).held
outcome (isolating a e d s) = let c = isolate a e d s in ranges (length c.before) (length c.run) (list_of c)

-- ---- Short names for the rows
merged : ℕ → Option Selector → ℕ → Call
merged n sel st = call_merge_single n (tracker_index 0) extent sel st

given : ℕ → Selector → ℕ → Call
given n sel st = call_set_single n (tracker_index 0) extent sel st

conflict : Selector → ℕ → ℕ → Answer InvalidUse
conflict q old new = in_conflict (record { index = 0; what = invalid_use q old new })

move : Selector → ℕ → ℕ → Entry
move q old new = record { selector = q; move = record { old = old; new = new } }

-- mip 0 in the ranges 0..1, 1..3 and 3..4, and mip 1 in one
three : ℕ → ℕ → ℕ → ℕ → Held
three a b c d = many ((range 0 1 a ∷ range 1 3 b ∷ range 3 4 c ∷ []) ∷ (range 0 4 d ∷ []) ∷ [])

row : Doing → Seen → Row
row d s = record { deed = d; gives = s }

rows : List Row
unfolding row merged given part conflict move three unknown extent
rows =
    -- B1 unowned, whole 8: whole 8.
    row (in_scope (merged 0 None 8 ∷ [])) (scope done (single 8))
    -- B2 then whole 2: whole 10.
    ∷ row (in_scope (merged 0 None 8 ∷ merged 0 None 2 ∷ [])) (scope done (single 10))
    -- B3 then whole 4: clash, full shape, 10 and 4; still 10.
    ∷ row (in_scope (merged 0 None 8 ∷ merged 0 None 2 ∷ merged 0 None 4 ∷ [])) (scope (conflict (full extent) 10 4) (single 10))
    -- B4 unowned, mip 0 layers 1..3, 8: mip 0 is 0..1 U, 1..3 8, 3..4 U; mip 1 is 0..4 U.
    ∷ row (in_scope (merged 0 (Some part) 8 ∷ [])) (scope done (three unknown 8 unknown unknown))
    -- B5 B4, then whole 2: 0..1 2, 1..3 10, 3..4 2; mip 1 2.
    ∷ row (in_scope (merged 0 (Some part) 8 ∷ merged 0 None 2 ∷ [])) (scope done (three 2 10 2 2))
    -- B6 B4, then whole 4: clash at mip 0 layers 1..3, 8 and 4; 0..1 is now 4, the rest as in B4.
    ∷ row (in_scope (merged 0 (Some part) 8 ∷ merged 0 None 4 ∷ [])) (scope (conflict part 8 4) (three 4 8 unknown unknown))
    -- B7 whole 8, merged with a scope holding 2 at mip 0 layers 1..3 only: 0..1 8200, 1..3 10, 3..4 8200; mip 1 8200.
    ∷ row (in_scope (merged 0 None 8 ∷ merged 1 (Some part) 2 ∷ call_merge_usage_scope 0 1 ∷ [])) (scope done (three 8200 10 8200 8200))
    -- B8 the same onto whole 4: clash at mip 0 layers 0..1, 4 and 8192.
    ∷ row (in_scope (merged 0 None 4 ∷ merged 1 (Some part) 2 ∷ call_merge_usage_scope 0 1 ∷ [])) (scope
    (conflict (select 0 1 0 1) 4 8192) (single 4))
    -- B9 tracker whole 4, set mip 0 layers 1..3 to 8: transition there 4 to 8; end 0..1 4, 1..3 8, 3..4 4, mip 1 4; start whole 4.
    ∷ row (in_tracker (given 0 (full extent) 4 ∷ given 0 part 8 ∷ [])) (tracker (move part 4 8 ∷ [])
    (record { start = single 4; end = three 4 8 4 4 }))
    -- B10 tracker whole 4 set to whole 4: transition 4 to 4.
    ∷ row (in_tracker (given 0 (full extent) 4 ∷ given 0 (full extent) 4 ∷ [])) (tracker (move (full extent) 4 4 ∷ [])
    (record { start = single 4; end = single 4 }))
    -- B10 Whole 8 to 8: none.
    ∷ row (in_tracker (given 0 (full extent) 8 ∷ given 0 (full extent) 8 ∷ [])) (tracker [] (record { start = single 8; end = single 8 }))
    -- B11 tracker first given B4's use, then whole 4: only 1..3 of mip 0, 8 to 4; start 0..1 4, 1..3 8, 3..4 4, mip 1 4.
    ∷ row (in_tracker (given 0 part 8 ∷ given 0 (full extent) 4 ∷ [])) (tracker (move part 8 4 ∷ [])
    (record { start = three 4 8 4 4; end = single 4 }))
    -- B12 tracker given B4's use, joined with one of start whole 2, end whole 8: transition 1..3 of mip 0, 8 to 2; start is 8 in one range
    -- a mip; end whole 8.
    ∷ row (in_tracker (given 0 part 8 ∷ given 1 (full extent) 2 ∷ given 1 (full extent) 8 ∷ call_set_from_tracker 0 1 ∷ []))
    (tracker (move part 8 2 ∷ []) (record { start = many ((range 0 4 8 ∷ []) ∷ (range 0 4 8 ∷ []) ∷ []); end = single 8 }))
    -- B13 `isolate` 3..7, default D, on 2..4 A, 6..8 B: 2..3 A, 3..4 A, 4..6 D, 6..7 B, 7..8 B; the run is at position 1, three ranges.
    ∷ row (isolating 3 7 100 (range 2 4 65 ∷ range 6 8 66 ∷ [])) (ranges 1 3 (range 2 3 65 ∷ range 3 4 65 ∷ range 4 6 100
    ∷ range 6 7 66 ∷ range 7 8 66 ∷ []))
    -- B14 `isolate` 5..7 on 0..2 A: 5..7 D is added, position 1, one range.
    ∷ row (isolating 5 7 100 (range 0 2 65 ∷ [])) (ranges 1 1 (range 0 2 65 ∷ range 5 7 100 ∷ []))
    ∷ []

samples : map (λ (r : Row). outcome r.deed) rows ≡ map (λ (r : Row). r.gives) rows
unfolding rows outcome incompatible invalid_state insert merge barrier update
samples = refl

-- ---- 01, "Misreadings", where no sample tells them apart: what the Rust gives
misread : List Row
unfolding row merged given part conflict move three unknown extent
misread =
    -- a first insert is not folded: the cuts that a conflict left in the scope are the tracker's ranges
    row (in_tracker (merged 0 (Some (select 0 1 0 4)) 8 ∷ merged 0 (Some part) 4 ∷ call_set_from_usage_scope 0 0 ∷ []))
    (tracker [] (record { start = three 8 8 8 unknown; end = three 8 8 8 unknown }))
    -- a state with UNKNOWN and another bit is not UNKNOWN: B7's scope given to a tracker, then whole 4
    ∷ row (in_tracker (merged 0 None 8 ∷ merged 1 (Some part) 2 ∷ call_merge_usage_scope 0 1 ∷ call_set_from_usage_scope 0 0
    ∷ given 0 (full extent) 4 ∷ []))
    (tracker (move (select 0 1 0 1) 8200 4 ∷ move part 10 4 ∷ move (select 0 1 3 4) 8200 4 ∷ move (select 1 2 0 4) 8200 4 ∷ [])
    (record { start = three 8200 10 8200 8200; end = single 4 }))
    ∷ []

misreadings : map (λ (r : Row). outcome r.deed) misread ≡ map (λ (r : Row). r.gives) misread
unfolding misread outcome incompatible invalid_state insert merge barrier update
misreadings = refl
