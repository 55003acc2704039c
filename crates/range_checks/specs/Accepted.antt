-- The contracts of this crate and the model's three calls on a lent run (model, RangeCalls): what they refuse, and what they leave.
use Rattle.std.specs.Prelude.{◌-◌, ◌*◌, ◌≤◌, ◌≡◌, ◌∷◌}
use Rattle.model.specs.Prelude.{ℕ, arith, sym, false, not, None, List, [], append_assoc, ltb, length, take}
use Rattle.model.specs.Prelude.{ltb-false}
use Rattle.model.specs.{BoolLaws.neither, CheckLaws.{passed, both_passed}, Refusals.{first_failing, layers_checks}}
use Rattle.model.specs.RangedStates.{list_of, isolate, iter_filter}
use Rattle.model.specs.RangeCalls.{ascends, ranges_check, run_checks, room_checks, isolate_refusal, isolated, coalesce_refusal, coalesced}
use Rattle.model.specs.RangeCalls.{filter_refusal}
use Rattle.range_isolate.specs.{declared.isolation.Isolated.Isolated as Told, Isolation.{IsolateRoom, Isolating}}
use Rattle.range_states.specs.{View.{view, decode, view_count}, Coalescing.Coalesced as Coalescing}

-- ---- what is accepted has the room
told_fits : (l : List ℕ) (told : ℕ) → (ranges_check told (view l)).fails ≡ false → 3 * told ≤ length l
told_fits l told e =
    let h = ltb-false (length (view l)) told (neither (ltb (length (view l)) told) (not (ascends 0 (take told (view l)))) e).0 in
    omega (arith, view_count l)

record_fits : (l : List ℕ) (n : ℕ) → ltb (length (view l)) n ≡ false → 3 * n ≤ length l
record_fits l n e = let h = ltb-false (length (view l)) n e in omega (arith, view_count l)

-- a run that passed 18, 19 and 14
pub run_fits : (l : List ℕ) (told a e : ℕ) → first_failing (run_checks a e told (view l)) ≡ None → 3 * told ≤ length l
run_fits l told a e h = told_fits l told (passed _ (both_passed (layers_checks a e) (ranges_check told (view l) ∷ []) h).1).0

pub isolate_accepted : (l : List ℕ) (told a e d : ℕ) → isolate_refusal a e d told (view l) ≡ None → IsolateRoom l told a e d
isolate_accepted l told a e d h =
    let n = length (list_of (isolate a e d (take told (view l)))) in
    let p = both_passed (run_checks a e told (view l)) (room_checks n (length (view l))) h in
    record { fits = run_fits l told a e p.0; grown = record_fits l n (passed _ p.1).0 }

pub coalesce_accepted : (l : List ℕ) (told : ℕ) → coalesce_refusal told (view l) ≡ None → 3 * told ≤ length l
coalesce_accepted l told h = told_fits l told (passed _ h).0

pub record FilterRoom (l : List ℕ) (told a e : ℕ) (m : List ℕ) : Type 0 where
  pub fits : 3 * told ≤ length l
  pub room : 3 * length (iter_filter a e (decode told l)) ≤ length m

pub filter_accepted : (l : List ℕ) (told a e : ℕ) (m : List ℕ) → filter_refusal a e told (view l) (view m) ≡ None → FilterRoom l told a e m
filter_accepted l told a e m h =
    let n = length (iter_filter a e (take told (view l))) in
    let p = both_passed (run_checks a e told (view l)) (room_checks n (length (view m))) h in
    record { fits = run_fits l told a e p.0; room = record_fits m n (passed _ p.1).0 }

-- ---- what is left is what the model's calls leave; that the told length is the model's is the contracts' own `size` and `count`
pub record TellsIsolated (l : List ℕ) (len a e d : ℕ) (r : Told) (l' : List ℕ) : Type 0 where
  pub position : (isolated a e d len (view l)).position ≡ r.position
  pub count : (isolated a e d len (view l)).count ≡ r.end - r.position
  pub records : (isolated a e d len (view l)).records ≡ view l'

pub isolated_is : {l : List ℕ} {len a e d : ℕ} {r : Told} {l' : List ℕ} → Isolating l len a e d r l' → TellsIsolated l len a e d r l'
isolated_is {l} {len} {a} {e} {d} {r} {l'} h =
    record { position = sym h.position; count = omega (arith, h.end); records = rw (h.into.seen, ← h.into.size) }

pub coalesced_is : {l : List ℕ} {len r : ℕ} {l' : List ℕ} → Coalescing l len r l' → (coalesced len (view l)).records ≡ view l'
coalesced_is {l} {len} {r} {l'} h = rw (h.into.seen, h.count, append_assoc)
