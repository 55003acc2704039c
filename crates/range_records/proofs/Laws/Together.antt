-- The passes are the model's calls: what each answers and leaves, for every input.
use Rattle.model.specs.Prelude.{ℕ, min, arith, refl, sym, ap, ◌∙◌, false, not, None, Some, Result, Ok, Err}
use Rattle.model.specs.Prelude.{result_err, List, ltb, eqb, length, take, drop}
use Rattle.model.specs.Prelude.{take-append-drop, length-take, length-take-le, lt-ltb, ltb-false, not-false}
use Rattle.model.specs.declared.Refusal.TheVariants.{RangesOutOfOrder, NoFreeEntry}
use Rattle.model.specs.{declared.{Range.Range, Refusal.Refusal}, Refusals.{Verdict, first_failing}}
use Rattle.model.specs.RangedStates.{list_of, isolate, iter_filter}
use Rattle.model.specs.RangeCalls.{ascends, ranges_check, run_checks, room_checks, isolate_refusal, coalesce_refusal, filter_refusal}
use Rattle.model.specs.{BoolLaws.{by_test, neither}, CheckLaws.{passed, checks_append, refused_first, starts_below}}
use Rattle.std.specs.Prelude.{◌+◌, ◌≤◌, ◌<◌, ◌≡◌, ◌||◌, if◌then◌else◌}
use Rattle.range_states.specs.View.{blank}
use Rattle.range_calls.specs.RangeContract.{isolate_answer, isolate_records, coalesce_answer, coalesce_records, filter_answer}
use Rattle.range_calls.specs.RangeContract.{filter_records}
use Rattle.range_records.specs.{declared.decisions.Scan.Scan, declared.decisions.Plan.Plan}
use Rattle.range_records.specs.Passes.{begun, scanned, length_of, isolated_plan, room_plan, accepted_then, isolate_plan, verdict_of}
use Rattle.range_records.specs.Passes.{run_verdict, room_answer, filter_plan, cutting, Joined, joining, clipping}
use Rattle.range_records.proofs.{Laws.Pieces.{Ascends, ascending}, Laws.Survey.{scanned_ascends, Tells, scanned_tells}, Laws.Cutting.cuts}
use Rattle.range_records.proofs.{Laws.Joining.join_all, Laws.Clipping.{scanned_both, scanned_found, clips}}
use Rattle.range_isolate.proofs.Covering.{by_order}

-- what the first pass finds among the records in use
abbrev pub survey : ℕ → ℕ → ℕ → List Range → Scan
survey a e told rs = scanned a e begun (take (min told (length rs)) rs)

-- ---- 18, 19 and 14, as the model checks them
order_test : (a e told : ℕ) (rs : List Range)
    → (ltb (length rs) told || not (ascends 0 (take told rs))) ≡ (ltb (length rs) told || not (survey a e told rs).ascends)
order_test a e told rs =
    by_order told (length rs)
    (λ u. let n : min told (length rs) ≡ told = omega arith in rw (n, scanned_ascends a e (take told rs)))
    (λ u. rw (lt-ltb (length rs) told u))

run_is : (a e told : ℕ) (rs : List Range)
    → result_err (run_verdict (length rs) told (survey a e told rs) a e) ≡ first_failing (run_checks a e told rs)
unfolding run_verdict first_failing
run_is a e told rs =
    by_test Told (eqb a e) (λ n. rw n) λ n.
    by_test Told (ltb e a) (λ q. rw (n, q)) λ q.
    by_test Told (ltb (length rs) told || not (survey a e told rs).ascends)
    (λ p. rw (n, q, order_test a e told rs, p)) (λ p. rw (n, q, order_test a e told rs, p))
  where
    Told : Verdict → Type 0
    Told v = result_err v ≡ first_failing (run_checks a e told rs)

-- what passes 14: all that was told is in use, and ascends
record InOrder (told : ℕ) (rs : List Range) : Type 0 where
  used : min told (length rs) ≡ told
  size : length (take told rs) ≡ told
  order : Ascends 0 (take told rs)

in_order_lem : (told : ℕ) (rs : List Range) → (ranges_check told rs).fails ≡ false → InOrder told rs
in_order_lem told rs q =
    let u = neither (ltb (length rs) told) (not (ascends 0 (take told rs))) q in
    let h : told ≤ length rs = ltb-false (length rs) told u.0 in
    record {
      used = omega arith;
      size = length-take-le told rs h;
      order = ascending 0 (take told rs) (not-false (ascends 0 (take told rs)) u.1);
    }

-- what passes all three
record RunPassed (a e told : ℕ) (rs : List Range) : Type 0 where
  below : a < e
  run : InOrder told rs

run_passed : (a e told : ℕ) (rs : List Range) → first_failing (run_checks a e told rs) ≡ None → RunPassed a e told rs
run_passed a e told rs h =
    let p = passed _ h in record { below = starts_below a e p.0 p.1.0; run = in_order_lem told rs p.1.1.0 }

-- ---- `isolate`
module _ (a e d told : ℕ) (rs : List Range) where
  -- what `isolate` does with its plan is the model's: a refusal leaves all as it was
  pub record Isolated (p : Plan) : Type 0 where
    pub fits : p.run.told ≤ length rs
    pub answer : Ok p.run ≡ isolate_answer a e d told rs
    pub records : cutting p.run.told (min told (length rs)) p.top a e d rs ≡ isolate_records a e d told rs

  pub record IsolateRefused (r : Refusal) : Type 0 where
    pub answer : Err r ≡ isolate_answer a e d told rs
    pub records : rs ≡ isolate_records a e d told rs

  abbrev pub Isolates : Result Plan Refusal → Type 0
  Isolates (Ok p) = Isolated p
  Isolates (Err r) = IsolateRefused r

  refused : (r : Refusal) → isolate_refusal a e d told rs ≡ Some r → IsolateRefused r
  unfolding isolate_answer isolate_records
  refused r h = record { answer = rw h; records = rw h }

  -- past 18, 19 and 14
  module _ (h : first_failing (run_checks a e told rs) ≡ None) where
    tells : Tells a e d (take told rs) (survey a e told rs)
    tells = let p = run_passed a e told rs h in rw p.run.used (scanned_tells a e d (take told rs) p.below p.run.order)

    all_is : length (list_of (isolate a e d (take told rs))) ≡ length_of a e told (survey a e told rs)
    all_is = rw (run_passed a e told rs h).run.size at tells.all

    refusal_is : isolate_refusal a e d told rs
        ≡ (if ltb (length rs) (length_of a e told (survey a e told rs)) then Some NoFreeEntry else None)
    unfolding first_failing
    refusal_is = checks_append (run_checks a e told rs) (room_checks (length (list_of (isolate a e d (take told rs)))) (length rs))
        ∙ rw (h, all_is)

    done : ltb (length rs) (length_of a e told (survey a e told rs)) ≡ false → Isolated (isolated_plan told (survey a e told rs) a e)
    unfolding isolate_answer isolate_records
    done o =
        let p = run_passed a e told rs h in let i = p.run in
        let accepted : isolate_refusal a e d told rs ≡ None = rw o at refusal_is in
        let fits : length_of a e told (survey a e told rs) ≤ length rs =
        ltb-false (length rs) (length_of a e told (survey a e told rs)) o in
        let cut = cuts a e d (take told rs) rs p.below i.order (rw i.size) (rw all_is fits) in
        record {
          fits = fits;
          answer = rw (accepted, tells.position, tells.count, all_is);
          records = rw (accepted, ← all_is, i.used) (rw i.size at cut);
        }

  pub isolates : Isolates (isolate_plan (length rs) told (survey a e told rs) a e)
  unfolding isolate_plan
  isolates = go (run_verdict (length rs) told (survey a e told rs) a e) refl
    where
      go : (v : Verdict) → run_verdict (length rs) told (survey a e told rs) a e ≡ v
          → Isolates (accepted_then v (room_plan (length rs) told (survey a e told rs) a e))
      go (Ok tt) z =
          let h : first_failing (run_checks a e told rs) ≡ None = sym (run_is a e told rs) ∙ ap result_err z in
          by_test Isolates (ltb (length rs) (length_of a e told (survey a e told rs)))
          (λ o. refused NoFreeEntry (rw o at (refusal_is h))) (done h)
      go (Err r) z = refused r (sym (refused_first (run_checks a e told rs) _ (run_is a e told rs) z))

  -- the call's own plan
  pub isolate_of : {x : Result Plan Refusal} {n : ℕ} {s : Scan} → n ≡ min told (length rs) → s ≡ scanned a e begun (take n rs)
      → x ≡ isolate_plan (length rs) told s a e → Isolates x
  isolate_of m g h = rw (h, g, m) isolates

-- ---- `coalesce`
module _ (told : ℕ) (rs : List Range) where
  -- what `coalesce` does is the model's: a refusal leaves all as it was
  pub record CoalesceRefused (r : Refusal) : Type 0 where
    pub answer : Err r ≡ coalesce_answer told rs
    pub records : rs ≡ coalesce_records told rs

  pub record Coalesced (j : Joined) : Type 0 where
    pub answer : Ok j.len ≡ coalesce_answer told rs
    pub records : j.records ≡ coalesce_records told rs

  abbrev pub Coalesces : Verdict → Type 0
  Coalesces (Ok u) = Coalesced (joining (min told (length rs)) 0 0 blank rs)
  Coalesces (Err r) = CoalesceRefused r

  pub coalesces : Coalesces (verdict_of (length rs) told (survey 0 0 told rs))
  unfolding verdict_of coalesce_answer coalesce_records first_failing
  coalesces =
      by_test Coalesces (ltb (length rs) told || not (survey 0 0 told rs).ascends)
      (λ p. let h : coalesce_refusal told rs ≡ Some RangesOutOfOrder = rw (order_test 0 0 told rs, p) in
      record { answer = rw h; records = rw h })
      (λ p. let h : coalesce_refusal told rs ≡ None = rw (order_test 0 0 told rs, p) in
      let i = in_order_lem told rs (order_test 0 0 told rs ∙ p) in
      let j = rw (i.size, take-append-drop told rs) at (join_all (take told rs) (drop told rs)) in
      record { answer = rw (h, i.used, j); records = rw (h, i.used, j) })

  -- the call's own verdict
  pub coalesce_of : {v : Verdict} {n : ℕ} {s : Scan} → n ≡ min told (length rs) → s ≡ scanned 0 0 begun (take n rs)
      → v ≡ verdict_of (length rs) told s → Coalesces v
  coalesce_of m g h = rw (h, g, m) coalesces

-- ---- `iter_filter`
module _ (a e told : ℕ) (rs out : List Range) where
  -- what `iter_filter` does is the model's: a refusal leaves all as it was
  pub record Filtered (n : ℕ) : Type 0 where
    pub fits : (survey a e told rs).first + n ≤ length rs
    pub room : n ≤ length out
    pub answer : Ok n ≡ filter_answer a e told rs out
    pub records : clipping n (survey a e told rs).first a e rs out ≡ filter_records a e told rs out

  pub record FilterRefused (r : Refusal) : Type 0 where
    pub answer : Err r ≡ filter_answer a e told rs out
    pub records : out ≡ filter_records a e told rs out

  abbrev pub Filters : Result ℕ Refusal → Type 0
  Filters (Ok n) = Filtered n
  Filters (Err r) = FilterRefused r

  turned : (r : Refusal) → filter_refusal a e told rs out ≡ Some r → FilterRefused r
  unfolding filter_answer filter_records
  turned r h = record { answer = rw h; records = rw h }

  -- past 18, 19 and 14
  module _ (h : first_failing (run_checks a e told rs) ≡ None) where
    found_is : length (iter_filter a e (take told rs)) ≡ (survey a e told rs).found
    found_is = rw (run_passed a e told rs h).run.used (scanned_found a e (take told rs))

    room_is : filter_refusal a e told rs out ≡ (if ltb (length out) (survey a e told rs).found then Some NoFreeEntry else None)
    unfolding first_failing
    room_is = checks_append (run_checks a e told rs) (room_checks (length (iter_filter a e (take told rs))) (length out)) ∙ rw (h, found_is)

    listed : ltb (length out) (survey a e told rs).found ≡ false → Filtered (survey a e told rs).found
    unfolding filter_answer filter_records
    listed o =
        let p = run_passed a e told rs h in let i = p.run in let accepted : filter_refusal a e told rs out ≡ None = rw o at room_is in
        let fits : (survey a e told rs).found ≤ length out = ltb-false (length out) (survey a e told rs).found o in
        let clip = clips a e (take told rs) (drop told rs) out p.below i.order (rw i.used at fits) in
        record {
          fits =
              omega (arith, scanned_both a e (take (min told (length rs)) rs), length-take (min told (length rs)) rs);
          room = fits;
          answer = rw (accepted, found_is);
          records = rw (accepted, found_is, i.used) (rw (take-append-drop told rs) at clip);
        }

  pub filters : Filters (filter_plan (length rs) told (survey a e told rs) a e (length out))
  unfolding filter_plan
  filters = go (run_verdict (length rs) told (survey a e told rs) a e) refl
    where
      go : (v : Verdict) → run_verdict (length rs) told (survey a e told rs) a e ≡ v
          → Filters (accepted_then v (room_answer (survey a e told rs).found (length out)))
      go (Ok tt) z =
          let h : first_failing (run_checks a e told rs) ≡ None = sym (run_is a e told rs) ∙ ap result_err z in
          by_test Filters (ltb (length out) (survey a e told rs).found) (λ o. turned NoFreeEntry (rw o at (room_is h))) (listed h)
      go (Err r) z = turned r (sym (refused_first (run_checks a e told rs) _ (run_is a e told rs) z))

  -- the call's own answer
  pub filter_of : {x : Result ℕ Refusal} {n : ℕ} {s : Scan} → n ≡ min told (length rs) → s ≡ scanned a e begun (take n rs)
      → x ≡ filter_plan (length rs) told s a e (length out) → Filters x
  filter_of m g h = rw (h, g, m) filters
