-- The passes over a run of records: what each computes, in the direction of its loop. That they are the model's calls is proved in proofs/.
use Rattle.std.specs.Prelude.{◌+◌, ◌-◌, ◌≤◌, ◌&&◌, ◌||◌, ◌∷◌, if◌then◌else◌}
use Rattle.std.specs.Int.{from_bool}
use Rattle.model.specs.Prelude.{ℕ, zero, suc, min, max, Bool, true, not, Result, Ok, Err, List, [], leb, ltb, eqb, get_or, set}
use Rattle.model.specs.declared.Refusal.TheVariants.{LayersEmpty, LayersReversed, RangesOutOfOrder, NoFreeEntry}
use Rattle.model.specs.{declared.{Range.Range, Refusal.Refusal}, Refusals.Verdict, RangedStates.{range, joins}}
use Rattle.range_states.specs.{View.blank, Filtering.{overlaps, clip}}
use Rattle.range_records.specs.{declared.decisions.Scan.Scan, declared.decisions.Plan.Plan, declared.decisions.Piece.Piece}
use Rattle.range_records.specs.declared.decisions.Next.{Next}

-- ---- The first pass: what there is
-- before any record
abbrev pub begun : Scan
begun = record { from = 0; ascends = true; first = 0; found = 0; gaps = 0; lead = 0; tail = 0 }

-- "a range is empty, out of order or overlaps": not so
abbrev pub follows_of : ℕ → Range → Bool
follows_of from r = leb from r.start && ltb r.start r.end

-- `range.start < index.start` of a range that goes on past it, and the like at the end: r is cut by x
abbrev pub cuts_of : ℕ → Range → Bool
cuts_of x r = ltb r.start x && ltb x r.end

-- one record more; the index is a .. e
unfoldable pub look_of : ℕ → ℕ → Scan → Range → Scan
unfolding overlaps
look_of a e s r =
    record {
      from = r.end;
      ascends = s.ascends && follows_of s.from r;
      first = s.first + from_bool (leb r.end a);
      found = s.found + from_bool (overlaps a e r);
      gaps = s.gaps + from_bool (ltb (max s.from a) (min r.start e));
      lead = s.lead + from_bool (cuts_of a r);
      tail = s.tail + from_bool (cuts_of e r);
    }

-- every record, the first first
unfoldable pub scanned : ℕ → ℕ → Scan → List Range → Scan
unfolding look_of
scanned a e s [] = s
scanned a e s (r ∷ rs) = scanned a e (look_of a e s r) rs

-- no count is above k
pub record Few (s : Scan) (k : ℕ) : Type 0 where
  pub first : s.first ≤ k
  pub found : s.found ≤ k
  pub gaps : s.gaps ≤ k
  pub lead : s.lead ≤ k
  pub tail : s.tail ≤ k

-- the gaps in the index, that after the last record among them
abbrev pub gaps_of : ℕ → ℕ → Scan → ℕ
gaps_of a e s = s.gaps + from_bool (ltb (max s.from a) e)

-- ---- The answers, after the first pass
-- how many records `isolate` leaves of `told`
abbrev pub length_of : ℕ → ℕ → ℕ → Scan → ℕ
length_of a e told s = told + gaps_of a e s + s.lead + s.tail

-- 14
unfoldable pub verdict_of : ℕ → ℕ → Scan → Verdict
verdict_of lent told s = if ltb lent told || not s.ascends then Err RangesOutOfOrder else Ok tt

-- 18, 19, and then 14
unfoldable pub run_verdict : ℕ → ℕ → Scan → ℕ → ℕ → Verdict
unfolding verdict_of
run_verdict lent told s a e =
    if eqb a e then Err LayersEmpty else if ltb e a then Err LayersReversed else verdict_of lent told s

-- what `isolate` tells, if it is not refused
abbrev pub isolated_plan : ℕ → Scan → ℕ → ℕ → Plan
isolated_plan told s a e = record {
  run = record { position = s.first + s.lead; count = s.found + gaps_of a e s; told = length_of a e told s };
  top = max s.from e;
}

-- 15, or what it tells
abbrev pub room_plan : ℕ → ℕ → Scan → ℕ → ℕ → Result Plan Refusal
room_plan lent told s a e = if ltb lent (length_of a e told s) then Err NoFreeEntry else Ok (isolated_plan told s a e)

-- an answer, where the run is accepted
abbrev pub accepted_then : {A : Type 0} → Verdict → Result A Refusal → Result A Refusal
accepted_then (Ok u) x = x
accepted_then (Err r) x = Err r

-- 18, 19, 14, 15, or what `isolate` tells
unfoldable pub isolate_plan : ℕ → ℕ → Scan → ℕ → ℕ → Result Plan Refusal
unfolding run_verdict
isolate_plan lent told s a e = accepted_then (run_verdict lent told s a e) (room_plan lent told s a e)

-- 15, or how many overlaps were found
abbrev pub room_answer : ℕ → ℕ → Result ℕ Refusal
room_answer found room = if ltb room found then Err NoFreeEntry else Ok found

-- 18, 19, 14, 15, or what `iter_filter` tells
unfoldable pub filter_plan : ℕ → ℕ → Scan → ℕ → ℕ → ℕ → Result ℕ Refusal
unfolding run_verdict
filter_plan lent told s a e room = accepted_then (run_verdict lent told s a e) (room_answer s.found room)

-- ---- `isolate`: the records from the last to the first, each cut at a and at e, and each gap between a and e filled
-- where the upper part of what lies from x to top starts
abbrev pub lower_of : ℕ → ℕ → ℕ → ℕ → ℕ
lower_of x top a e = if ltb e top then max x e else if ltb a top then max x a else x

-- where the last of i records ends
abbrev pub end_of : ℕ → Range → ℕ
end_of i r = if eqb i 0 then 0 else r.end

-- how many are left to read after a part that starts at b
abbrev pub left_of : ℕ → ℕ → Range → ℕ
left_of i b r = if eqb b r.start then i - 1 else i

-- what lies below g, the record r at i - 1 the last of i that are left to read: a gap after r, or the upper part of r
unfoldable pub cut_piece : ℕ → Range → ℕ → ℕ → ℕ → ℕ → Piece
cut_piece i r g a e d =
    let low = max (end_of i r) a in let high = min g e in let top = min r.end g in let bottom = lower_of r.start top a e in
    if ltb low high then record { range = range low high d; left = i }
    else record { range = range bottom top r.state; left = left_of i bottom r }

-- w records are left to write, i to read, and g is where the last one that was written starts
unfoldable pub cutting : ℕ → ℕ → ℕ → ℕ → ℕ → ℕ → List Range → List Range
unfolding cut_piece
cutting zero i g a e d l = l
cutting (suc w) i g a e d l =
    let p = cut_piece i (get_or l (i - 1) blank) g a e d in cutting w p.left p.range.start a e d (set l w p.range)

-- ---- `coalesce`: each record joins the last that was written, or is written after it; what was read becomes zeros first
unfoldable pub join_of : Range → ℕ → Range → Next
join_of last len r =
    if ltb 0 len && joins last r then record { range = range last.start r.end last.state; at = len - 1; len = len }
    else record { range = r; at = len; len = len + 1 }

-- how many records are in use, and all of them
pub record Joined : Type 0 where
  pub len : ℕ
  pub records : List Range

-- k records are left to read, from i on; `len` are written, `last` the last of them
unfoldable pub joining : ℕ → ℕ → ℕ → Range → List Range → Joined
unfolding join_of
joining zero i len last l = record { len = len; records = l }
joining (suc k) i len last l =
    let j = join_of last len (get_or l i blank) in joining k (i + 1) j.len j.range (set (set l i blank) j.at j.range)

-- ---- `iter_filter`: the overlaps of ascending records stand together; n of them from `first` on, clipped
unfoldable pub clipping : ℕ → ℕ → ℕ → ℕ → List Range → List Range → List Range
clipping zero first a e rs out = out
clipping (suc n) first a e rs out = set (clipping n first a e rs out) n (clip a e (get_or rs (first + n) blank))
