-- How many entries a merge writes, before it writes: `need_of`, way by way.
use Rattle.std.specs.Prelude.{◌+◌, ◌-◌, ◌/◌, ◌%◌, ◌≤◌, ◌<◌, ◌≡◌, ◌&&◌, ◌∷◌}
use Rattle.model.specs.Prelude.{ℕ, arith, refl, sym, ap, ◌∙◌, true, false, and-false, Option, None, Some}
use Rattle.model.specs.Prelude.{and-true, List, [], ltb, length, get_or, lt-ltb, le-ltb, eq-eqb, ne_eqb}
use Rattle.model.specs.{declared.PendingTransition.PendingTransition}
use Rattle.texture_barrier.specs.Entries.{entries_of, entries_long, blank_entry}
use Rattle.log_merge.specs.Merge.{index_of, Merge, merge_of, rises_from, ascending, below, last_of, first_count, second_count}
use Rattle.log_merge.specs.{MergeLaws.{merge_no_first, merge_no_second, below_none}, Calls.in_order}
use Rattle.log_merge.proofs.ClosedForm.{count_is}
use Rattle.log_merge.specs.Order.{Scans, Needs}

-- ---- Of lists of entries
pub no_entries : (a : List ℕ) → length a / 7 ≡ 0 → entries_of a ≡ []
no_entries a h = go (entries_of a) (entries_long a ∙ h)
  where
    go : (s : List PendingTransition) → length s ≡ 0 → s ≡ []
    go [] e = refl
    go (x ∷ s) e = absurd (omega arith)

nil_ascends : ascending [] ≡ true
unfolding rises_from
nil_ascends = refl

-- the last index, as the code reads it
last_at : (a : PendingTransition) (s : List PendingTransition) → last_of a s ≡ index_of (get_or (a ∷ s) (length s) blank_entry)
unfolding last_of
last_at a [] = refl
last_at a (b ∷ s) = last_at b s

last_is : (a : PendingTransition) (s : List PendingTransition) (n : ℕ) → n ≡ length (a ∷ s)
    → last_of a s ≡ index_of (get_or (a ∷ s) (n - 1) blank_entry)
last_is a s n e = let k : n - 1 ≡ length s = omega arith in rw k (last_at a s)

-- the closed form at two logs whose last indices are read so
second_used_up : (s t : List PendingTransition) (n m : ℕ) → n ≡ length s → m ≡ length t → 0 < n → 0 < m
    → index_of (get_or t (m - 1) blank_entry) < index_of (get_or s (n - 1) blank_entry)
    → (first_count s t ≡ below (index_of (get_or t (m - 1) blank_entry) + 1) s) × (second_count s t ≡ m)
unfolding first_count second_count
second_used_up [] t n m p q h k l = absurd (omega arith)
second_used_up (a ∷ s) [] n m p q h k l = absurd (omega arith)
second_used_up (a ∷ s) (b ∷ t) n m p q h k l =
    let f = last_is a s n p in
    let g = last_is b t m q in
    let v : ltb (last_of b t) (last_of a s) ≡ true = lt-ltb (last_of b t) (last_of a s) (omega arith) in
    rw v (ap (λ (o : ℕ). below (o + 1) (a ∷ s)) g, sym q)

first_used_up : (s t : List PendingTransition) (n m : ℕ) → n ≡ length s → m ≡ length t → 0 < n → 0 < m
    → index_of (get_or s (n - 1) blank_entry) ≤ index_of (get_or t (m - 1) blank_entry)
    → (first_count s t ≡ n) × (second_count s t ≡ below (index_of (get_or s (n - 1) blank_entry)) t)
unfolding first_count second_count
first_used_up [] t n m p q h k l = absurd (omega arith)
first_used_up (a ∷ s) [] n m p q h k l = absurd (omega arith)
first_used_up (a ∷ s) (b ∷ t) n m p q h k l =
    let f = last_is a s n p in
    let g = last_is b t m q in
    let v : ltb (last_of b t) (last_of a s) ≡ false = le-ltb (last_of b t) (last_of a s) (omega arith) in
    rw v (sym p, ap (λ (o : ℕ). below o (b ∷ t)) f)

-- ---- Of borrowed logs
whole : (a : List ℕ) → length a % 7 ≡ 0 → in_order a ≡ ascending (entries_of a)
unfolding in_order
whole a h = rw (eq-eqb (length a % 7) 0 h)

cut : (a : List ℕ) → (length a % 7 ≡ 0 → ⊥) → in_order a ≡ false
unfolding in_order
cut a h = rw (ne_eqb (length a % 7) 0 h)

-- one of them stops inside an entry
pub first_cut : (a b : List ℕ) → (length a % 7 ≡ 0 → ⊥) → (in_order a && in_order b) ≡ false
first_cut a b h = rw (cut a h)

pub second_cut : (a b : List ℕ) → (length b % 7 ≡ 0 → ⊥) → (in_order a && in_order b) ≡ false
second_cut a b h = rw (cut b h) (and-false (in_order a))

-- two logs of whole entries
pub record Whole (a b : List ℕ) : Type 0 where
  pub first : length a % 7 ≡ 0
  pub second : length b % 7 ≡ 0

module _ {a b : List ℕ} (w : Whole a b) where
  first_told : ascending (entries_of b) ≡ true → (in_order a && in_order b) ≡ ascending (entries_of a)
  first_told g = rw (whole b w.second, g) (and-true (in_order a)) ∙ whole a w.first

  second_told : ascending (entries_of a) ≡ true → (in_order a && in_order b) ≡ ascending (entries_of b)
  second_told g = rw (whole a w.first, g) (whole b w.second)

  -- nothing is merged, and the one that is not empty is scanned
  none_needed : (s : List PendingTransition) (x : Option ℕ) → (in_order a && in_order b) ≡ ascending s
      → length (merge_of a b).merged ≡ 0 → Scans s 0 x → Needs a b x
  none_needed s None g m n = g ∙ n
  none_needed s (Some x) g m n = (g ∙ n.0, n.1 ∙ below_none 0 0 s (omega arith) n.0 ∙ sym m)

  pub first_empty : (x : Option ℕ) → length a / 7 ≡ 0 → Scans (entries_of b) 0 x → Needs a b x
  first_empty x z s =
      let f = no_entries a z in
      let g = second_told (rw f nil_ascends) in
      let m : length (merge_of a b).merged ≡ 0 = rw f (ap (λ (m : Merge). length m.merged) (merge_no_first (entries_of b))) in
      none_needed (entries_of b) x g m s

  pub second_empty : (x : Option ℕ) → length b / 7 ≡ 0 → Scans (entries_of a) 0 x → Needs a b x
  second_empty x z s =
      let f = no_entries b z in
      let g = first_told (rw f nil_ascends) in
      let m : length (merge_of a b).merged ≡ 0 = rw f (ap (λ (m : Merge). length m.merged) (merge_no_second (entries_of a))) in
      none_needed (entries_of a) x g m s

  -- one of them descends
  pub first_descends : ascending (entries_of a) ≡ false → (in_order a && in_order b) ≡ false
  first_descends z = rw (whole a w.first, z)

  pub second_descends : ascending (entries_of b) ≡ false → (in_order a && in_order b) ≡ false
  second_descends z = rw (whole b w.second, z) (and-false (in_order a))

-- two that have entries, with their last indices u and v, and that ascend
pub record Lasts (a b : List ℕ) (u v : ℕ) : Type 0 where
  pub whole : Whole a b
  pub some : (length a / 7 ≡ 0 → ⊥) × (length b / 7 ≡ 0 → ⊥)
  pub first : u ≡ index_of (get_or (entries_of a) (length a / 7 - 1) blank_entry)
  pub second : v ≡ index_of (get_or (entries_of b) (length b / 7 - 1) blank_entry)

module _ {a b : List ℕ} {u v : ℕ} (k : Lasts a b u v) (d : ascending (entries_of a) ≡ true) (e : ascending (entries_of b) ≡ true) where
  told : (in_order a && in_order b) ≡ true
  told = first_told k.whole e ∙ d

  pub all_second : {x : ℕ} → v < u → x ≡ below (v + 1) (entries_of a)
      → ((in_order a && in_order b) ≡ true) × (length b / 7 + x ≡ length (merge_of a b).merged)
  all_second {x} l s =
      let i = second_used_up (entries_of a) (entries_of b) (length a / 7) (length b / 7) (sym (entries_long a)) (sym (entries_long b))
      (omega (arith, k.some.0)) (omega (arith, k.some.1)) (omega (arith, k.first, k.second)) in
      let c : x ≡ first_count (entries_of a) (entries_of b) =
      s ∙ ap (λ (t : ℕ). below (t + 1) (entries_of a)) k.second ∙ sym i.0 in
      (told, omega (arith, i.1, count_is (entries_of a) (entries_of b) d e))

  pub all_first : {x : ℕ} → u ≤ v → x ≡ below u (entries_of b)
      → ((in_order a && in_order b) ≡ true) × (length a / 7 + x ≡ length (merge_of a b).merged)
  all_first {x} l s =
      let i = first_used_up (entries_of a) (entries_of b) (length a / 7) (length b / 7) (sym (entries_long a)) (sym (entries_long b))
      (omega (arith, k.some.0)) (omega (arith, k.some.1)) (omega (arith, k.first, k.second)) in
      let c : x ≡ second_count (entries_of a) (entries_of b) = s ∙ ap (λ (t : ℕ). below t (entries_of b)) k.first ∙ sym i.1 in
      (told, omega (arith, i.0, count_is (entries_of a) (entries_of b) d e))
