-- `insert_record` opens a gap from the top down and writes the record there.
use Rattle.std.specs.Prelude.{◌+◌, ◌*◌, ◌-◌, ◌≤◌, ◌<◌, ◌≡◌}
use Rattle.model.specs.Prelude.{ℕ, arith, refl, sym, ◌∙◌, List, length, get_or, length-take-le}
use Rattle.model.specs.declared.{Range.Range}
use Rattle.range_states.specs.{View.{view, spare, decode, blank, Put, Becomes, view_long}, Insert.{insert_at, length_insert_at}}
use Rattle.range_isolate.proofs.{Shift.{shifted, shifted_none, shifted_more, shifted_put}}
use Rattle.range_isolate.proofs.insert_record.Given as goal

pub record Shifting (s₀ : List ℕ) (len at : ℕ) (s : List ℕ) (k : ℕ) : Type 0 where
  pub low : at ≤ k
  pub high : k ≤ len
  pub seen : view s ≡ shifted k len (view s₀)
  pub rest : spare s ≡ spare s₀
  pub long : length s ≡ length s₀

pub start_of : (s : List ℕ) (len at : ℕ) → at ≤ len → Shifting s len at s len
start_of s len at h = record { low = h; high = omega arith; seen = sym (shifted_none len (view s)); rest = refl; long = refl }

pub turn : {s₀ : List ℕ} {len at : ℕ} {s : List ℕ} {k : ℕ} {r : Range} {s' : List ℕ} → 3 * (len + 1) ≤ length s₀ → Shifting s₀ len at s k
    → at < k → r ≡ get_or (view s) (k - 1) blank → Put s k r s' → Shifting s₀ len at s' (k - 1)
turn {s₀} {len} {at} {s} {k} {r} {s'} room i t e p =
    let v : len + 1 ≤ length (view s₀) = view_long s₀ (len + 1) room in
    record {
      low = omega arith;
      high = omega arith;
      seen = p.seen ∙ rw (e, i.seen) (shifted_more k len (view s₀) blank (omega arith) i.high (omega arith));
      rest = p.rest ∙ i.rest;
      long = p.long ∙ i.long;
    }

pub finish : (s₀ : List ℕ) (len at : ℕ) (s : List ℕ) (k : ℕ) (r : Range) (s' : List ℕ) → 3 * (len + 1) ≤ length s₀ → Shifting s₀ len at s k
    → k ≤ at → Put s at r s' → Becomes s₀ (len + 1) (insert_at at r (decode len s₀)) s'
finish s₀ len at s k r s' room i t p =
    let v : len + 1 ≤ length (view s₀) = view_long s₀ (len + 1) room in let e : k ≡ at = omega arith in
    record {
      size = length_insert_at at r (decode len s₀) ∙ rw (length-take-le len (view s₀) (omega arith)) (omega arith);
      seen = p.seen ∙ rw (i.seen, e) (shifted_put at len (view s₀) r (omega arith) (omega arith));
      rest = p.rest ∙ i.rest;
      long = p.long ∙ i.long;
    }

abbrev pub invariant-loop-k : goal.invariant-loop-k
invariant-loop-k l = Shifting l.initial.s l.len l.at l.s l.k
