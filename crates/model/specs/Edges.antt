-- 01's table of refusals, every number at its edge with its place, and which of two applies first: one theorem a kind of call, by
-- computation. What the two representations share (the table, the calls' frame) is tested by nothing else but this page and the runs
-- against the Rust.
use Rattle.model.specs.Prelude.{ℕ, refl, true, Option, None, Some, List, [], map, get_or, replicate, set}
use Rattle.model.specs.declared.{Extent.Extent, Selector.Selector, InvalidUse.InvalidUse, PendingTransition.PendingTransition}
use Rattle.model.specs.{declared.Refusal.Refusal, Flags.incompatible, Representation.{select, full}}
use Rattle.model.specs.Sets.{Opening, Tracker, with_tracker, open_tracker}
use Rattle.model.specs.Refusals.{number_of, place_of, first_failing, opening_refusal, tracker_index}
use Rattle.model.specs.Calls.{Answer, done, refused, in_conflict, Call, call_merge_single, call_merge_usage_scope, call_set_single}
use Rattle.model.specs.Calls.{call_set_from_usage_scope, call_set_and_remove_sparse, Sets, step, newly, set_single}
use Rattle.model.specs.{StateRules.invalid_state, RangedStates.{range, isolate, coalesce, iter_filter}}
use Rattle.model.specs.RangeCalls.{isolate_refusal, isolated, coalesce_refusal, coalesced, filter_refusal, filtered}
use Rattle.model.specs.Texture.{Held, single, many, ranged, insert, merge, barrier, update}
use Rattle.model.specs.{WellFormed.{tracker_fits, well_formed_tracker}, Log.{Log, logging, emptying}}
use Rattle.std.specs.Prelude.{◌≡◌, ◌∷◌}

-- ---- A verdict: 01's number and place, or none
data Verdict : Type 0 where
  passes : Verdict
  turned : ℕ → ℕ → Verdict
  conflicts : Verdict

of_refusal : Option Refusal → Verdict
of_refusal None = passes
of_refusal (Some r) = turned (number_of r) (place_of r)

of_answer : Answer InvalidUse → Verdict
unfolding of_refusal
of_answer done = passes
of_answer (refused r) = of_refusal (Some r)
of_answer (in_conflict c) = conflicts

-- ---- 1, 2, 3: opening N, M, W with room; and flags EXCLUSIVE, UNINITIALIZED, COMPLEX, UNKNOWN
sized : ℕ → ℕ → ℕ → ℕ → Opening
sized n m w room = record {
  numbers = record { textures = n; mips = m; layers = w };
  flags = record { exclusive = 20; uninitialized = 1; complex = 4096; unknown = 8192 };
  mask = 10;
  room = room;
}

flagged : ℕ → ℕ → ℕ → ℕ → Opening
flagged e i c u = record {
  numbers = record { textures = 1; mips = 1; layers = 1 };
  flags = record { exclusive = e; uninitialized = i; complex = c; unknown = u };
  mask = 0;
  room = 1;
}

openings : map (λ o. of_refusal (opening_refusal o)) (
    -- "N 64 opens, 65 is 1"
    sized 64 16 256 262144 ∷ sized 65 16 256 999999 ∷ sized 0 1 1 9 ∷ sized 1 17 1 99 ∷ sized 1 0 1 9 ∷ sized 1 1 257 999 ∷ sized 1 1 0 9
    -- a bit outside sixteen, two bits, none, equal ones, COMPLEX or UNKNOWN inside EXCLUSIVE; UNINITIALIZED may lie inside, and EXCLUSIVE
    -- may be 0
    ∷ flagged 20 1 4096 65536 ∷ flagged 65536 1 4096 8192 ∷ flagged 20 3 4096 8192 ∷ flagged 20 1 0 8192 ∷ flagged 20 1 4096 4096
    ∷ flagged 20 1 1 8192 ∷ flagged 20 1 4096 1
    ∷ flagged 2 1 2 4 ∷ flagged 4 1 2 4 ∷ flagged 1 1 2 4 ∷ flagged 0 1 2 4
    -- the last range of room; 1 before 2 before 3
    ∷ sized 4 2 4 32 ∷ sized 4 2 4 31 ∷ (let o = flagged 20 3 4096 8192 in
    record { numbers = record { textures = 0; mips = 1; layers = 1 }; flags = o.flags; mask = 0; room = 0 })
    ∷ (let o = flagged 20 3 4096 8192 in record { numbers = o.numbers; flags = o.flags; mask = 0; room = 0 })
    ∷ []) ≡ (
    passes ∷ turned 1 0 ∷ turned 1 0 ∷ turned 1 0 ∷ turned 1 0 ∷ turned 1 0 ∷ turned 1 0
    ∷ turned 2 0 ∷ turned 2 0 ∷ turned 2 0 ∷ turned 2 0 ∷ turned 2 0 ∷ turned 2 0 ∷ turned 2 0
    ∷ turned 2 0 ∷ turned 2 0 ∷ passes ∷ passes
    ∷ passes ∷ turned 3 0 ∷ turned 1 0
    ∷ turned 2 0
    ∷ [])
unfolding opening_refusal of_refusal sized flagged
openings = refl

-- ---- 6 to 13, 16 to 19: scopes 0 and 1 of four textures, 2 of other flags, 3 of five textures; trackers 0 and 1 of four
sets : Sets ranged
unfolding sized newly
sets =
    let o = sized 4 2 4 32 in
    let other : Opening = record {
      numbers = o.numbers;
      flags = record { exclusive = 4; uninitialized = 1; complex = 4096; unknown = 8192 };
      mask = 10;
      room = 32;
    } in
    newly ranged (o ∷ o ∷ other ∷ sized 5 2 4 40 ∷ []) (o ∷ o ∷ [])

run : List Call → Sets ranged → Sets ranged
unfolding step
run [] k = k
run (c ∷ cs) k = run cs (step ranged c k).after

after : List Call → Call → Verdict
unfolding sets run step of_answer
after cs c = of_answer (step ranged c (run cs sets)).answer

extent : ℕ → ℕ → Extent
extent m l = record { mips = m; layers = l }

-- a use of the whole of texture i of scope n, and of a part of texture 0 of scope 0
used : ℕ → ℕ → ℕ → Call
unfolding extent
used n i st = call_merge_single n (tracker_index i) (extent 2 4) None st

part : Selector → ℕ → Call
unfolding extent
part q st = call_merge_single 0 (tracker_index 0) (extent 2 4) (Some q) st

-- and of a part of texture 0 of tracker 0
set_part : Selector → Call
unfolding extent
set_part q = call_set_single 0 (tracker_index 0) (extent 2 4) q 8

sparse : List ℕ → Call
sparse is = call_set_and_remove_sparse 0 0 is

-- texture 2 of tracker 0, with one mip
narrow : Call
unfolding extent
narrow = call_set_single 0 (tracker_index 2) (extent 1 4) (full (extent 1 4)) 8

calls : (
    -- 7: the index is not below N
    after [] (used 0 3 8) ∷ after [] (used 0 4 8)
    -- 8: mips are not 1 to M, or layers not 1 to W
    ∷ after [] (call_merge_single 0 (tracker_index 1) (extent 3 4) None 8)
    ∷ after [] (call_merge_single 0 (tracker_index 1) (extent 2 0) None 8)
    -- 9: the index is owned with another extent
    ∷ after (used 0 1 8 ∷ []) (call_merge_single 0 (tracker_index 1) (extent 1 4) None 8)
    -- 16, 17: mips 0..1 pass, 1..1 have no length, 1..0 are reversed
    ∷ after [] (part (select 0 1 0 4) 8) ∷ after [] (part (select 1 1 0 4) 8) ∷ after [] (part (select 1 0 0 4) 8)
    -- 18, 19: layers 2..3 pass, "01's edge case 2..2 becomes 18", 3..2 are reversed; and of a tracker's use
    ∷ after [] (part (select 0 1 2 3) 8) ∷ after [] (part (select 0 1 2 2) 8) ∷ after [] (part (select 0 1 3 2) 8)
    ∷ after [] (set_part (select 0 1 2 3)) ∷ after [] (set_part (select 0 1 2 2)) ∷ after [] (set_part (select 0 1 3 2))
    ∷ after [] (set_part (select 1 1 0 4)) ∷ after [] (set_part (select 1 0 0 4))
    -- two of them: 16 and 18, 16 and 19, 17 and 18, 17 and 19
    ∷ after [] (part (select 1 1 2 2) 8) ∷ after [] (part (select 1 1 3 2) 8)
    ∷ after [] (part (select 1 0 2 2) 8) ∷ after [] (part (select 1 0 3 2) 8)
    -- each beside 11, by its own end and by the other's
    ∷ after [] (part (select 5 5 0 4) 8) ∷ after [] (part (select 5 4 0 4) 8)
    ∷ after [] (part (select 0 1 9 9) 8) ∷ after [] (part (select 0 1 9 8) 8)
    ∷ after [] (part (select 1 1 0 5) 8) ∷ after [] (part (select 1 0 0 5) 8)
    ∷ after [] (part (select 0 3 2 2) 8) ∷ after [] (part (select 0 3 3 2) 8)
    -- 11: "end 4 of 4 passes, 5 is 11"
    ∷ after [] (part (select 0 1 0 4) 8) ∷ after [] (part (select 0 1 0 5) 8) ∷ after [] (part (select 0 3 0 4) 8)
    -- 12: zero, or with UNKNOWN or COMPLEX; 13: "state 24 is 13, state 16 passes"
    ∷ after [] (used 0 0 0) ∷ after [] (used 0 0 8200) ∷ after [] (used 0 0 4104) ∷ after [] (used 0 0 24) ∷ after [] (used 0 0 16)
    -- the first that fails is told: 7 before 8, 8 before 16, 16 before 12, 11 before 12, 12 before 13
    ∷ after [] (call_merge_single 0 (tracker_index 4) (extent 3 4) (Some (select 0 0 0 9)) 0)
    ∷ after [] (call_merge_single 0 (tracker_index 0) (extent 3 4) (Some (select 0 0 0 9)) 0)
    ∷ after [] (part (select 0 0 0 9) 0) ∷ after [] (part (select 0 1 0 9) 0) ∷ after [] (used 0 0 4116)
    -- 6, before what the set owns is looked at
    ∷ after [] (call_merge_usage_scope 0 2) ∷ after [] (call_set_from_usage_scope 0 2) ∷ after [] (call_set_and_remove_sparse 0 2 (9 ∷ []))
    -- over a set: 7, and 9 at the first index where one applies, ascending
    ∷ after (used 3 4 8 ∷ []) (call_merge_usage_scope 0 3)
    ∷ after (used 0 2 8 ∷ call_merge_single 1 (tracker_index 2) (extent 1 4) None 8 ∷ []) (call_merge_usage_scope 0 1)
    ∷ after (used 3 2 8 ∷ used 3 4 8 ∷ narrow ∷ []) (call_set_from_usage_scope 0 3)
    -- the sparse call: in list order, and an index that the scope does not own is passed over
    ∷ after [] (sparse (3 ∷ [])) ∷ after [] (sparse (3 ∷ 4 ∷ []))
    ∷ after (used 0 2 8 ∷ narrow ∷ []) (sparse (3 ∷ 2 ∷ 4 ∷ [])) ∷ after (used 0 2 8 ∷ narrow ∷ []) (sparse (3 ∷ 4 ∷ 2 ∷ []))
    -- a conflict is no refusal
    ∷ after (used 0 0 8 ∷ []) (used 0 0 4)
    ∷ []) ≡ (
    passes ∷ turned 7 4
    ∷ turned 8 1 ∷ turned 8 1
    ∷ turned 9 1
    ∷ passes ∷ turned 16 0 ∷ turned 17 0
    ∷ passes ∷ turned 18 0 ∷ turned 19 0
    ∷ passes ∷ turned 18 0 ∷ turned 19 0
    ∷ turned 16 0 ∷ turned 17 0
    ∷ turned 16 0 ∷ turned 16 0
    ∷ turned 17 0 ∷ turned 17 0
    ∷ turned 16 0 ∷ turned 17 0
    ∷ turned 18 0 ∷ turned 19 0
    ∷ turned 16 0 ∷ turned 17 0
    ∷ turned 18 0 ∷ turned 19 0
    ∷ passes ∷ turned 11 0 ∷ turned 11 0
    ∷ turned 12 0 ∷ turned 12 0 ∷ turned 12 0 ∷ turned 13 0 ∷ passes
    ∷ turned 7 4 ∷ turned 8 0
    ∷ turned 16 0 ∷ turned 11 0 ∷ turned 12 0
    ∷ turned 6 0 ∷ turned 6 0 ∷ turned 6 0
    ∷ turned 7 4
    ∷ turned 9 2
    ∷ turned 9 2
    ∷ passes ∷ turned 7 4
    ∷ turned 9 2 ∷ turned 7 4
    ∷ conflicts
    ∷ [])
unfolding after used part set_part sparse narrow extent incompatible invalid_state insert merge barrier update
calls = refl

-- ---- 4, 5, 15: tracker 0 in state 4 at texture 0, and a log of `lent` entries
tracker : Tracker Held
unfolding sets run step sized extent
tracker = get_or (run (call_set_single 0 (tracker_index 0) (extent 2 4) (full (extent 2 4)) 4 ∷ []) sets).trackers 0
    (open_tracker single (sized 4 2 4 32))

blank : PendingTransition
blank = record { index = tracker_index 0; selector = select 0 0 0 0; old = 0; new = 0 }

log : ℕ → ℕ → ℕ → Log
unfolding blank
log lent written free = record { entries = replicate lent blank; head = record { written = written; free = free } }

-- set texture 0 to a state, with room of the start and of the end
setting : ℕ → ℕ → Tracker Held → ℕ → Log → Verdict
unfolding of_answer extent tracker_fits logging
setting start_room end_room t st l =
    of_answer (logging (well_formed_tracker start_room end_room t) l t (set_single ranged t 0 (extent 2 4) (full (extent 2 4)) st)).answer

-- the tracker with another start and end at texture 0; mip 0 in one state, and mip 1 in two ranges
damaged : Held → Held → Tracker Held
unfolding tracker extent
damaged s e = with_tracker tracker
    (set tracker.set.slots 0 (record { owned = true; extent = extent 2 4; held = record { start = s; end = e } }))

mips : ℕ → ℕ → ℕ → Held
mips a b c = many ((range 0 4 a ∷ []) ∷ (range 0 1 b ∷ range 1 4 c ∷ []) ∷ [])

logs : (
    -- "the last free entry is used, one more is 15"
    setting 32 32 tracker 8 (log 3 2 1) ∷ setting 32 32 tracker 8 (log 3 3 0)
    -- 5: the head tells all that was lent, and one more
    ∷ setting 32 32 tracker 8 (log 2 1 1) ∷ setting 32 32 tracker 8 (log 2 1 2) ∷ setting 32 32 tracker 8 (log 0 0 0)
    -- 4: the room of either half
    ∷ setting 31 32 tracker 8 (log 1 0 1) ∷ setting 32 31 tracker 8 (log 1 0 1)
    -- 4: a state that is incompatible, UNKNOWN where Single, of more than 16 bits, with COMPLEX; no mips; a mip that ends early; start and
    -- end apart on UNKNOWN
    ∷ setting 32 32 (damaged (single 16) (single 4)) 8 (log 1 0 1) ∷ setting 32 32 (damaged (single 24) (single 4)) 8 (log 1 0 1)
    ∷ setting 32 32 (damaged (single 8192) (single 4)) 8 (log 1 0 1) ∷ setting 32 32 (damaged (single 65536) (single 4)) 8 (log 1 0 1)
    ∷ setting 32 32 (damaged (single 4104) (single 4)) 8 (log 1 0 1) ∷ setting 32 32 (damaged (many []) (single 4)) 8 (log 1 0 1)
    ∷ setting 32 32 (damaged (many ((range 0 4 8 ∷ []) ∷ (range 0 3 8 ∷ []) ∷ [])) (single 4)) 8 (log 1 0 1)
    ∷ setting 32 32 (damaged (mips 8 8200 8) (single 4)) 8 (log 1 0 1) ∷ setting 32 32 (damaged (mips 8 8192 8) (single 4)) 8 (log 1 0 1)
    ∷ setting 32 32 (damaged (mips 8 8192 8) (mips 2 8192 4)) 8 (log 3 0 3)
    -- 4 before 5, 5 before 12, 12 before 15
    ∷ setting 31 32 tracker 0 (log 0 1 0) ∷ setting 32 32 tracker 0 (log 0 1 0) ∷ setting 32 32 tracker 0 (log 1 1 0)
    -- emptying: 5 alone
    ∷ of_answer (emptying (log 2 1 1)).answer ∷ of_answer (emptying (log 2 1 2)).answer
    ∷ []) ≡ (
    passes ∷ turned 15 0
    ∷ passes ∷ turned 5 0 ∷ turned 15 0
    ∷ turned 4 0 ∷ turned 4 0
    ∷ passes ∷ turned 4 0
    ∷ turned 4 0 ∷ turned 4 0
    ∷ turned 4 0 ∷ turned 4 0
    ∷ turned 4 0
    ∷ passes ∷ turned 4 0
    ∷ passes
    ∷ turned 4 0 ∷ turned 5 0 ∷ turned 12 0
    ∷ passes ∷ turned 5 0
    ∷ [])
unfolding setting tracker log damaged mips extent emptying first_failing incompatible invalid_state insert merge barrier update
logs = refl

-- ---- 18, 19, 14, 15: the calls on range records
range_calls : map of_refusal (
    -- a run of 2..6 in a gap needs one record more
    isolate_refusal 2 6 9 1 (range 0 2 5 ∷ range 0 0 0 ∷ []) ∷ isolate_refusal 2 6 9 1 (range 0 2 5 ∷ [])
    -- 18 and 19 of `isolate`, before 15, "with any 32-bit ends", and before 14
    ∷ isolate_refusal 2 2 9 1 (range 0 2 5 ∷ []) ∷ isolate_refusal 3 2 9 1 (range 0 2 5 ∷ [])
    ∷ isolate_refusal 4294967295 4294967295 9 1 (range 0 2 5 ∷ []) ∷ isolate_refusal 4294967295 0 9 1 (range 0 2 5 ∷ [])
    ∷ isolate_refusal 2 2 9 2 (range 0 2 5 ∷ []) ∷ isolate_refusal 3 2 9 2 (range 0 2 5 ∷ [])
    -- the told length, an empty range, out of order, overlapping, touching
    ∷ coalesce_refusal 1 (range 0 2 5 ∷ []) ∷ coalesce_refusal 2 (range 0 2 5 ∷ []) ∷ coalesce_refusal 1 (range 2 2 5 ∷ [])
    ∷ coalesce_refusal 2 (range 4 6 5 ∷ range 0 2 5 ∷ [])
    ∷ coalesce_refusal 2 (range 0 3 5 ∷ range 2 4 5 ∷ []) ∷ coalesce_refusal 2 (range 0 2 5 ∷ range 2 4 5 ∷ [])
    -- no record past the told length is looked at
    ∷ coalesce_refusal 1 (range 0 2 5 ∷ range 9 1 0 ∷ [])
    -- the output's room; 18 and 19 before 15 and before 14, 14 before 15
    ∷ filter_refusal 1 3 2 (range 0 2 5 ∷ range 2 4 6 ∷ []) (replicate 2 (range 0 0 0))
    ∷ filter_refusal 1 3 2 (range 0 2 5 ∷ range 2 4 6 ∷ []) (replicate 1 (range 0 0 0))
    ∷ filter_refusal 3 3 1 (range 0 9 5 ∷ []) [] ∷ filter_refusal 4 3 1 (range 0 9 5 ∷ []) []
    ∷ filter_refusal 3 3 2 (range 0 2 5 ∷ []) [] ∷ filter_refusal 4 3 2 (range 0 2 5 ∷ []) [] ∷ filter_refusal 1 3 2 (range 0 2 5 ∷ []) []
    ∷ []) ≡ (
    passes ∷ turned 15 0
    ∷ turned 18 0 ∷ turned 19 0
    ∷ turned 18 0 ∷ turned 19 0
    ∷ turned 18 0 ∷ turned 19 0
    ∷ passes ∷ turned 14 0 ∷ turned 14 0 ∷ turned 14 0
    ∷ turned 14 0 ∷ passes
    ∷ passes
    ∷ passes ∷ turned 15 0
    ∷ turned 18 0 ∷ turned 19 0
    ∷ turned 18 0 ∷ turned 19 0 ∷ turned 14 0
    ∷ [])
unfolding of_refusal first_failing isolate coalesce iter_filter
range_calls = refl

-- ---- What is written, and what stays
-- B13 in six records, of which the last is past both lengths; 0..3 5 and 3..4 5 joined, the freed record a zero; two overlaps into three
-- records
records : ((isolated 3 7 100 2 (range 2 4 65 ∷ range 6 8 66 ∷ replicate 4 (range 9 9 9))).records
    ∷ (coalesced 2 (range 0 3 5 ∷ range 3 4 5 ∷ range 9 9 9 ∷ [])).records
    ∷ (filtered 1 3 2 (range 0 2 5 ∷ range 2 4 6 ∷ []) (replicate 3 (range 9 9 9))).output
    ∷ []) ≡ (
    (range 2 3 65 ∷ range 3 4 65 ∷ range 4 6 100 ∷ range 6 7 66 ∷ range 7 8 66 ∷ range 9 9 9 ∷ [])
    ∷ (range 0 4 5 ∷ range 0 0 0 ∷ range 9 9 9 ∷ [])
    ∷ (range 1 2 5 ∷ range 2 3 6 ∷ range 9 9 9 ∷ [])
    ∷ [])
unfolding isolate coalesce iter_filter
records = refl

-- texture 0 set from 4 to 8 with one entry written of three; refused for want of a free entry; and a log emptied
written : List Log
unfolding log tracker extent logging emptying
written =
    (logging true (log 3 1 2) tracker (set_single ranged tracker 0 (extent 2 4) (full (extent 2 4)) 8)).log
    ∷ (logging true (log 3 3 0) tracker (set_single ranged tracker 0 (extent 2 4) (full (extent 2 4)) 8)).log
    ∷ (emptying (log 3 1 2)).log
    ∷ []

log_contents : written ≡ (
    record {
      entries = blank ∷ record { index = tracker_index 0; selector = select 0 2 0 4; old = 4; new = 8 } ∷ blank ∷ [];
      head = record { written = 2; free = 1 };
    }
    ∷ log 3 3 0
    ∷ log 3 0 3
    ∷ [])
unfolding written log blank tracker extent first_failing incompatible invalid_state insert merge barrier update
log_contents = refl
