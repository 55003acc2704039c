-- How many ranges `isolate` will leave, counted on unchanged storage.
use Rattle.model.specs.Prelude.{ℕ, suc, max, le_of_lt, arith, refl, ap, ◌∙◌, Bool, true, false, List, [], ltb, length, get_or, drop}
use Rattle.model.specs.Prelude.{length-drop, slice_empty, length-take-le, le-ltb, le-leb, lt-leb, ltb-true, ltb-false}
use Rattle.model.specs.{declared.Range.Range, RangedStates.{range, list_of, isolate_from, isolate}}
use Rattle.std.specs.Int.{from_bool}
use Rattle.std.specs.Prelude.{◌+◌, ◌*◌, ◌-◌, ◌≤◌, ◌<◌, ◌≡◌, ◌∷◌, if◌then◌else◌}
use Rattle.range_states.specs.View.{view, decode, blank, view_long}
use Rattle.range_isolate.specs.Isolation.{all_of, gap_count, cut_count, cut_first, lead_count, added_by, Found, Leading, Added}
use Rattle.range_isolate.proofs.{Covering.{by_order, long_before, long_last, long_more}, Isolating.isolate_long}
use Rattle.range_states.proofs.Inserting.{next_is}

-- ---- `added_by`, case by case
module _ (a e : ℕ) (x : Range) (s : List Range) where
  pub added_before : e ≤ max a x.start → added_by a e (x ∷ s) ≡ 1
  unfolding added_by
  added_before h = rw (le-leb e (max a x.start) h)

  pub added_last : max a x.start < e → e ≤ x.end → added_by a e (x ∷ s) ≡ gap_count a x.start + cut_count e x
  unfolding added_by
  added_last h k = rw (lt-leb e (max a x.start) h, le-leb e x.end k)

  pub added_more : max a x.start < e → x.end < e → added_by a e (x ∷ s) ≡ gap_count a x.start + added_by x.end e s
  unfolding added_by
  added_more h k = rw (lt-leb e (max a x.start) h, lt-leb e x.end k)

-- ---- it is what the loop adds: from before the end on, and at a first range that is not cut or is cut at a
pub added_is : (e d a : ℕ) (s : List Range) → a < e → length (all_of (isolate_from a e d s)) ≡ length s + added_by a e s
unfolding isolate_from added_by
added_is e d a [] h = refl
added_is e d a (x ∷ s) h =
    by_order e x.start (λ t. omega (arith, long_before e d a x s t, added_before a e x s (omega arith))) λ t.
    by_order e x.end (λ k. omega (arith, long_last e d a x s t k, added_last a e x s (omega arith) k)) λ k.
    omega (arith, long_more e d a x s t k, added_more a e x s (omega arith) k, added_is e d x.end s k)

first_is : (e d a : ℕ) (x : Range) (s : List Range) → a ≤ x.start
    → length (all_of (isolate_from a e d (x ∷ s))) ≡ suc (length s) + added_by a e (x ∷ s)
first_is e d a x s h =
    by_order e x.start (λ t. omega (arith, long_before e d a x s t, added_before a e x s (omega arith))) λ t.
    added_is e d a (x ∷ s) (omega arith)

cut_is : (e d a : ℕ) (x : Range) (s : List Range) → x.start < a
    → length (all_of (isolate_from a e d (range a x.end x.state ∷ s))) ≡ suc (length s) + added_by a e (x ∷ s)
cut_is e d a x s h =
    let y : Range = range a x.end x.state in let g : gap_count a x.start ≡ 0 = rw (le-ltb a x.start (le_of_lt h)) in
    let g' : gap_count a a ≡ 0 = rw (le-ltb a a (omega arith)) in
    by_order e a (λ t. omega (arith, long_before e d a y s t, added_before a e x s (omega arith))) λ t.
    first_is e d a y s (omega arith) ∙ ap (λ (n : ℕ). suc (length s) + n)
    (by_order e x.end
    (λ k. omega (arith, added_last a e y s (omega arith) k, added_last a e x s (omega arith) k))
    (λ k. omega (arith, added_more a e y s (omega arith) k, added_more a e x s (omega arith) k)))

cut_first_lem : (e d a : ℕ) (s : List Range)
    → length (all_of (isolate_from a e d (drop (lead_count a s) (cut_first a s)))) ≡ length s + added_by a e s
unfolding lead_count cut_first added_by isolate_from
cut_first_lem e d a [] = refl
cut_first_lem e d a (x ∷ s) = go (ltb x.start a) refl
  where
    go : (t : Bool) → ltb x.start a ≡ t
        → length (all_of (isolate_from a e d (drop (if t then 1 else 0) (if t then range x.start a x.state ∷ range a x.end x.state
        ∷ s else x ∷ s)))) ≡ suc (length s) + added_by a e (x ∷ s)
    go true q = cut_is e d a x s (ltb-true x.start a q)
    go false q = first_is e d a x s (ltb-false x.start a q)

pub count_is : {l : List ℕ} {len a e p g h : ℕ} → 3 * len ≤ length l → Found l len a p → Leading l len p a g → Added l len p a e h → (d : ℕ)
    → len + g + h ≡ length (list_of (isolate a e d (decode len l)))
count_is {l} {len} {a} {e} {p} {g} {h} room f q r d =
    let v : length (decode len l) ≡ len = length-take-le len (view l) (view_long l len room) in
    let s : List Range = drop p (decode len l) in
    let i : length (list_of (isolate a e d (decode len l))) ≡ p + g + length (all_of (isolate_from a e d (drop g (cut_first a s)))) =
    isolate_long a e d (decode len l) p g f.is q.is in
    let j : length (all_of (isolate_from a e d (drop g (cut_first a s)))) ≡ length s + added_by a e s = rw q.is (cut_first_lem e d a s) in
    omega (arith, i, j, r.is, length-drop p (decode len l), f.few)

-- ---- a count of one or none
pub gap_few : (a b : ℕ) → gap_count a b ≤ 1
gap_few a b = go (ltb a b)
  where
    go : (t : Bool) → (if t then 1 else 0) ≤ 1
    go true = omega arith
    go false = omega arith

pub gap_is : {m : ℕ} (a b : ℕ) → m ≡ from_bool (ltb a b) → m ≡ gap_count a b
gap_is {m} a b h = h ∙ go (ltb a b)
  where
    go : (t : Bool) → from_bool t ≡ (if t then 1 else 0)
    go true = refl
    go false = refl

-- ---- `lead`
pub lead_end : {l : List ℕ} {len pos x : ℕ} → pos ≡ len → Leading l len pos x 0
unfolding lead_count
lead_end {l} {len} {pos} {x} h = record { few = omega arith; is = rw (h, slice_empty len (view l)) }

pub lead_is : {l : List ℕ} {len pos x m : ℕ} {r : Range} → 3 * len ≤ length l → pos ≤ len → (pos ≡ len → ⊥)
    → r ≡ get_or (view l) pos blank → m ≡ from_bool (ltb r.start x) → Leading l len pos x m
unfolding lead_count
lead_is {l} {len} {pos} {x} {m} {r} room h ne g i =
    let t = gap_is r.start x i in
    record { few = omega (arith, t, gap_few r.start x); is = rw (next_is l len pos r room (omega arith) g) t }

-- ---- the loop of `added`: what is counted, and what is left to count
pub record Counting (l : List ℕ) (len pos at e n k a : ℕ) : Type 0 where
  pub low : pos ≤ k
  pub high : k ≤ len
  pub few : n ≤ k - pos
  pub is : n + added_by a e (drop k (decode len l)) ≡ added_by at e (drop pos (decode len l))

pub finish : {l : List ℕ} {len pos at e n k a : ℕ} → Counting l len pos at e n k a → len ≤ k → Added l len pos at e (n + 1)
unfolding added_by
finish {l} {len} {pos} {at} {e} {n} {k} {a} j h =
    let q : k ≡ len = omega (arith, j.high) in let z : drop k (decode len l) ≡ [] = rw q (slice_empty len (view l)) in
    let m : n + added_by a e [] ≡ added_by at e (drop pos (decode len l)) = rw z at j.is in
    record { few = omega (arith, j.few, j.low); is = m }

module _ {l : List ℕ} {len pos at e n k a : ℕ} {x : Range} (room : 3 * len ≤ length l) (j : Counting l len pos at e n k a) (t : k < len)
    (g : x ≡ get_or (view l) k blank) where
  abbrev behind : List Range
  behind = drop (k + 1) (decode len l)

  here : n + added_by a e (x ∷ behind) ≡ added_by at e (drop pos (decode len l))
  here = rw (next_is l len k x room t g) at j.is

  pub stop : e ≤ max a x.start → Added l len pos at e (n + 1)
  stop h = record { few = omega (arith, j.few, j.low); is = rw (added_before a e x behind h) at here }

  pub last : {m o : ℕ} → max a x.start < e → e ≤ x.end → m ≡ gap_count a x.start → o ≡ gap_count e x.end
      → Added l len pos at e (n + m + o)
  last {m} {o} h u q r =
      let v = added_last a e x behind h u in
      record { few = omega (arith, j.few, j.low, gap_few a x.start, gap_few e x.end); is = omega (arith, here) }

  pub turn : {m : ℕ} → max a x.start < e → x.end < e → m ≡ gap_count a x.start → Counting l len pos at e (n + m) (k + 1) x.end
  turn {m} h u q =
      let v = added_more a e x behind h u in
      record {
        low = omega (arith, j.low);
        high = omega arith;
        few = omega (arith, j.few, j.low, gap_few a x.start);
        is = omega (arith, here);
      }
