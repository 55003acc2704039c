-- The three calls, refused and done, from what the checks and the functions below ensure.
use Rattle.std.specs.Prelude.{◌-◌, ◌≡◌}
use Rattle.model.specs.Prelude.{ℕ, refl, sym, None, Some, Ok, Err, List}
use Rattle.model.specs.{declared.Refusal.Refusal, RangeCalls.{isolate_refusal, coalesce_refusal, filter_refusal}}
use Rattle.range_states.specs.{View.view, Coalescing.Coalesced, Filtering.Filtered}
use Rattle.range_isolate.specs.{declared.isolation.Isolated.Isolated, Isolation.Isolating}
use Rattle.range_checks.specs.Accepted.{isolated_is, coalesced_is}
use Rattle.range_calls.specs.RangeContract.{isolate_answer, isolate_records, coalesce_answer, coalesce_records, filter_answer}
use Rattle.range_calls.specs.RangeContract.{filter_records, Isolates, Coalesces, Filters}

pub isolate_refused : {l : List ℕ} {told a e d : ℕ} {r : Refusal} → Some r ≡ isolate_refusal a e d told (view l)
    → Isolates l told a e d (Err r) l
unfolding isolate_answer isolate_records
isolate_refused h = record { answer = rw (← h) refl; leaves = record { records = rw (← h) refl; rest = refl; long = refl } }

pub isolate_done : {l : List ℕ} {told a e d : ℕ} {r : Isolated} {l' : List ℕ}
    → None ≡ isolate_refusal a e d told (view l) → Isolating l told a e d r l'
    → Isolates l told a e d (Ok (record { position = r.position; count = r.end - r.position; told = r.len })) l'
unfolding isolate_answer isolate_records
isolate_done {l} {told} {a} {e} {d} {r} {l'} h i =
    let t = isolated_is i in
    record {
      answer = rw (← h, t.position, t.count, i.into.size) refl;
      leaves = record { records = rw (← h) (sym t.records); rest = i.into.rest; long = i.into.long };
    }

pub coalesce_refused : {l : List ℕ} {told : ℕ} {r : Refusal} → Some r ≡ coalesce_refusal told (view l)
    → Coalesces l told (Err r) l
unfolding coalesce_answer coalesce_records
coalesce_refused h = record { answer = rw (← h) refl; leaves = record { records = rw (← h) refl; rest = refl; long = refl } }

pub coalesce_done : {l : List ℕ} {told n : ℕ} {l' : List ℕ} → None ≡ coalesce_refusal told (view l) → Coalesced l told n l'
    → Coalesces l told (Ok n) l'
unfolding coalesce_answer coalesce_records
coalesce_done h i =
    record {
      answer = rw (← h, i.count) refl;
      leaves = record { records = rw (← h) (sym (coalesced_is i)); rest = i.into.rest; long = i.into.long };
    }

pub filter_refused : {l : List ℕ} {told a e : ℕ} {out : List ℕ} {r : Refusal} → Some r ≡ filter_refusal a e told (view l) (view out)
    → Filters l told a e out (Err r) out
unfolding filter_answer filter_records
filter_refused h = record { answer = rw (← h) refl; leaves = record { records = rw (← h) refl; rest = refl; long = refl } }

pub filter_done : {l : List ℕ} {told a e : ℕ} {out : List ℕ} {n : ℕ} {out' : List ℕ} → None ≡ filter_refusal a e told (view l) (view out)
    → Filtered l told a e out n out'
    → Filters l told a e out (Ok n) out'
unfolding filter_answer filter_records
filter_done h i =
    record {
      answer = rw (← h, i.count) refl;
      leaves = record { records = rw (← h, i.into.seen, i.count) refl; rest = i.into.rest; long = i.into.long };
    }
