-- `need_of` looks for a part of an entry, for a descent, and counts by the closed form, case by case.
use Rattle.std.specs.Prelude.{◌+◌, ◌-◌, ◌/◌, ◌%◌, ◌≡◌}
use Rattle.model.specs.Prelude.{ℕ, arith, sym, ◌∙◌, List, length, get_or}
use Rattle.texture_barrier.specs.Entries.{entries_of, entries_long, blank_entry}
use Rattle.log_merge.specs.{Merge.index_of, MergeLaws.below_few}
use Rattle.log_merge.proofs.Needing.{Whole, Lasts, first_cut, second_cut, first_empty, second_empty, first_descends, second_descends}
use Rattle.log_merge.proofs.Needing.{all_second, all_first}
use Rattle.log_merge.proofs.order.need_of.Goals as goal
use Rattle.log_merge.proofs.order.need_of.Goals.{then-first-ne0-via-then-first-ne0}
use Rattle.log_merge.proofs.order.need_of.Goals.{then-first-ne0-via-else-first-ne0+then-second-ne0}

whole : {a b : List ℕ} → length a % 7 ≡ 0 → length b % 7 ≡ 0 → Whole a b
whole p q = record { first = p; second = q }

-- both have entries, and their last indices are read
lasts : {a b : List ℕ} {u v : ℕ} → length a % 7 ≡ 0 → length b % 7 ≡ 0 → (length a / 7 ≡ 0 → ⊥) → (length b / 7 ≡ 0 → ⊥)
    → u ≡ index_of (get_or (entries_of a) (length a / 7 - 1) blank_entry)
    → v ≡ index_of (get_or (entries_of b) (length b / 7 - 1) blank_entry) → Lasts a b u v
lasts p q m n e f = record { whole = whole p q; some = (m, n); first = e; second = f }

pub returns-then-first-ne0 : goal.returns-then-first-ne0
returns-then-first-ne0 c =
    elim c.then-first-ne0.branch [
      | then-first-ne0-via-then-first-ne0 w ↦ first_cut c.args.first.now c.args.second.now w.if-first-ne0.true
      | then-first-ne0-via-else-first-ne0+then-second-ne0 w ↦ second_cut c.args.first.now c.args.second.now w.if-second-ne0.true
    ]

pub returns-then-n-eq0 : goal.returns-then-n-eq0
returns-then-n-eq0 c = first_empty (whole c.if-first-ne0.false c.if-second-ne0.false) _ c.if-n-eq0.true c.scan.ensures

pub returns-then-m-eq0 : goal.returns-then-m-eq0
returns-then-m-eq0 c = second_empty (whole c.if-first-ne0.false c.if-second-ne0.false) _ c.if-m-eq0.true c.scan-then-m-eq0.ensures

pub returns-then-not-ascends : goal.returns-then-not-ascends
returns-then-not-ascends c =
    second_descends (whole c.if-first-ne0.false c.if-second-ne0.false) (sym c.ascends.ensures ∙ c.if-not-ascends.true)

pub returns-in_err-scan : goal.returns-in_err-scan
returns-in_err-scan c =
    rw c.from_residual.ensures (first_descends (whole c.if-first-ne0.false c.if-second-ne0.false) c.in_err-scan.ensures)

pub overflow_add-result : goal.overflow_add-result
overflow_add-result c = record {
  fits = let a = c.args.first.now in
      omega (arith, c.in_ok-scan.ensures.1, below_few (c.from.result + 1) (entries_of a), entries_long a);
}

pub returns-then-b-a : goal.returns-then-b-a
returns-then-b-a c =
    let k = lasts c.if-first-ne0.false c.if-second-ne0.false c.if-n-eq0.false c.if-m-eq0.false c.index_at-a.ensures c.index_at-b.ensures in
    all_second k c.in_ok-scan.ensures.0 (sym c.ascends.ensures ∙ c.if-not-ascends.false) c.if-b-a.true
    (rw c.from.ensures at c.in_ok-scan.ensures.1)

pub returns-then-not-ascends-2 : goal.returns-then-not-ascends-2
returns-then-not-ascends-2 c =
    first_descends (whole c.if-first-ne0.false c.if-second-ne0.false) (sym c.ascends-2.ensures ∙ c.if-not-ascends-2.true)

pub returns-in_err-scan-2 : goal.returns-in_err-scan-2
returns-in_err-scan-2 c =
    rw c.from_residual-in_err-scan-2.ensures
    (second_descends (whole c.if-first-ne0.false c.if-second-ne0.false) c.in_err-scan-2.ensures)

pub overflow_add-result-2 : goal.overflow_add-result-2
overflow_add-result-2 c = record {
  fits = let b = c.args.second.now in
      omega (arith, c.in_ok-scan-2.ensures.1, below_few c.from-2.result (entries_of b), entries_long b);
}

pub returns : goal.returns
returns c =
    let k = lasts c.if-first-ne0.false c.if-second-ne0.false c.if-n-eq0.false c.if-m-eq0.false c.index_at-a.ensures c.index_at-b.ensures in
    all_first k (sym c.ascends-2.ensures ∙ c.if-not-ascends-2.false) c.in_ok-scan-2.ensures.0 c.if-b-a.false
    (rw c.from-2.ensures at c.in_ok-scan-2.ensures.1)
