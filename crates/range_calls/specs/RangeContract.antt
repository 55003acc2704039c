-- 01, "Strips": what the three calls answer and leave, by the model's definitions (model, RangeCalls), on records and on plain numbers.
use Rattle.std.specs.Prelude.{◌≡◌}
use Rattle.model.specs.Prelude.{ℕ, Option, None, Some, Result, Ok, Err, List, length}
use Rattle.model.specs.declared.{Range.Range, Refusal.Refusal}
use Rattle.model.specs.RangeCalls.{isolate_refusal, isolated, coalesce_refusal, coalesced, filter_refusal, filtered}
use Rattle.range_states.specs.View.{view, spare}
use Rattle.range_calls.specs.declared.Isolation.{Isolation}

-- "Everything lent stays" if there is a refusal
abbrev pub unless : {A : Type 0} → Option Refusal → A → A → A
unless None done stays = done
unless (Some r) done stays = stays

-- ---- The answers: the refusal, or what the call tells
abbrev pub told_unless : {A : Type 0} → Option Refusal → A → Result A Refusal
told_unless None a = Ok a
told_unless (Some r) a = Err r

-- ---- On a list of records: `isolate` "tells the run's position and count", and "the strip's new length"
unfoldable pub isolate_answer : ℕ → ℕ → ℕ → ℕ → List Range → Result Isolation Refusal
isolate_answer a e d told rs =
    let i = isolated a e d told rs in
    told_unless (isolate_refusal a e d told rs) (record { position = i.position; count = i.count; told = i.told })

unfoldable pub isolate_records : ℕ → ℕ → ℕ → ℕ → List Range → List Range
isolate_records a e d told rs = unless (isolate_refusal a e d told rs) (isolated a e d told rs).records rs

-- `coalesce` tells "the strip's new length"
unfoldable pub coalesce_answer : ℕ → List Range → Result ℕ Refusal
coalesce_answer told rs = told_unless (coalesce_refusal told rs) (coalesced told rs).told

unfoldable pub coalesce_records : ℕ → List Range → List Range
coalesce_records told rs = unless (coalesce_refusal told rs) (coalesced told rs).records rs

-- `iter_filter` "tells how many"; the records are those of the second run
unfoldable pub filter_answer : ℕ → ℕ → ℕ → List Range → List Range → Result ℕ Refusal
filter_answer a e told rs out = told_unless (filter_refusal a e told rs out) (filtered a e told rs out).count

unfoldable pub filter_records : ℕ → ℕ → ℕ → List Range → List Range → List Range
filter_records a e told rs out = unless (filter_refusal a e told rs out) (filtered a e told rs out).output out

-- ---- On plain numbers, three a record: as on the records that they are, and the numbers after the last whole record stay
pub record Holds (l : List ℕ) (rs : List Range) (l' : List ℕ) : Type 0 where
  pub records : view l' ≡ rs
  pub rest : spare l' ≡ spare l
  pub long : length l' ≡ length l

pub record Isolates (l : List ℕ) (told a e d : ℕ) (x : Result Isolation Refusal) (l' : List ℕ) : Type 0 where
  pub answer : x ≡ isolate_answer a e d told (view l)
  pub leaves : Holds l (isolate_records a e d told (view l)) l'

pub record Coalesces (l : List ℕ) (told : ℕ) (x : Result ℕ Refusal) (l' : List ℕ) : Type 0 where
  pub answer : x ≡ coalesce_answer told (view l)
  pub leaves : Holds l (coalesce_records told (view l)) l'

pub record Filters (l : List ℕ) (told a e : ℕ) (out : List ℕ) (x : Result ℕ Refusal) (out' : List ℕ) : Type 0 where
  pub answer : x ≡ filter_answer a e told (view l) (view out)
  pub leaves : Holds out (filter_records a e told (view l) (view out)) out'
