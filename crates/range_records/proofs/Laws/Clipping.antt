-- The second pass of `iter_filter`: the overlaps of ascending records stand together.
use Rattle.std.specs.Int.{from_bool}
use Rattle.model.specs.Prelude.{ℕ, zero, suc, arith, refl, sym, ap, ◌∙◌, Bool, true, false, List, [], map, map-append, append_assoc, leb}
use Rattle.model.specs.Prelude.{ltb, length, get_or, take, drop, length-append, length-drop, length-map, take-suc, drop-cons, get_or-drop}
use Rattle.model.specs.Prelude.{set_at, length-take-le, take-append-le, drop-append-le, lt-ltb, le-ltb, le-leb, lt-leb}
use Rattle.model.specs.{declared.Range.Range, RangedStates.iter_filter}
use Rattle.std.specs.Prelude.{◌+◌, ◌≤◌, ◌<◌, ◌≡◌, ◌&&◌, ◌∷◌, ◌++◌, if◌then◌else◌}
use Rattle.range_states.specs.{View.blank, Filtering.{overlaps, clip}}
use Rattle.range_records.specs.{declared.decisions.Scan.Scan, Passes.{begun, look_of, scanned, clipping}}
use Rattle.range_records.proofs.Laws.Pieces.{Ascends}
use Rattle.range_isolate.proofs.Covering.{by_order}

-- ---- how many records end at or before a, and how many overlap a .. e
firsts : ℕ → List Range → ℕ
firsts a [] = 0
firsts a (r ∷ rs) = if leb r.end a then suc (firsts a rs) else firsts a rs

founds : ℕ → ℕ → List Range → ℕ
founds a e [] = 0
founds a e (r ∷ rs) = if overlaps a e r then suc (founds a e rs) else founds a e rs

one_more : (b : Bool) (x n : ℕ) → x + from_bool b + n ≡ x + (if b then suc n else n)
one_more true x n = omega arith
one_more false x n = omega arith

first_from : (a e : ℕ) (s : Scan) (rs : List Range) → (scanned a e s rs).first ≡ s.first + firsts a rs
unfolding scanned look_of firsts
first_from a e s [] = omega arith
first_from a e s (r ∷ rs) = first_from a e (look_of a e s r) rs ∙ one_more (leb r.end a) s.first (firsts a rs)

found_from : (a e : ℕ) (s : Scan) (rs : List Range) → (scanned a e s rs).found ≡ s.found + founds a e rs
unfolding scanned look_of founds
found_from a e s [] = omega arith
found_from a e s (r ∷ rs) = found_from a e (look_of a e s r) rs ∙ one_more (overlaps a e r) s.found (founds a e rs)

-- ---- they are what `iter_filter` lists
filter_long : (a e : ℕ) (rs : List Range) → length (iter_filter a e rs) ≡ founds a e rs
unfolding iter_filter founds overlaps
filter_long a e [] = refl
filter_long a e (r ∷ rs) = go (ltb a r.end && ltb r.start e) (filter_long a e rs)
  where
    go : (b : Bool) → length (iter_filter a e rs) ≡ founds a e rs
        → length (if b then clip a e r ∷ iter_filter a e rs else iter_filter a e rs) ≡ (if b then suc (founds a e rs) else founds a e rs)
    go true ih = ap suc ih
    go false ih = ih

firsts_past : (a from : ℕ) (rs : List Range) → a ≤ from → Ascends from rs → firsts a rs ≡ 0
unfolding firsts
firsts_past a from [] h t = refl
firsts_past a from (r ∷ rs) h t = rw (lt-leb r.end a (omega arith)) (firsts_past a r.end rs (omega arith) t.2)

filter_past : (a e from : ℕ) (rs : List Range) → a < e → e ≤ from → Ascends from rs → iter_filter a e rs ≡ []
unfolding iter_filter
filter_past a e from [] k h t = refl
filter_past a e from (r ∷ rs) k h t = rw (lt-ltb a r.end (omega arith), le-ltb r.start e (omega arith))
    (filter_past a e r.end rs k (omega arith) t.2)

filter_is : (a e from : ℕ) (rs : List Range) → a < e → Ascends from rs
    → iter_filter a e rs ≡ map (clip a e) (take (founds a e rs) (drop (firsts a rs) rs))
unfolding iter_filter founds firsts overlaps
filter_is a e from [] k t = refl
filter_is a e from (r ∷ rs) k t =
    let ih = filter_is a e r.end rs k t.2 in
    by_order r.end a (λ u. rw (le-leb r.end a u, le-ltb a r.end u) ih) λ u.
    let none = firsts_past a r.end rs (omega arith) t.2 in
    by_order e r.start
    (λ v. let past = filter_past a e r.end rs k (omega arith) t.2 in
    let zero : founds a e rs ≡ 0 = sym (filter_long a e rs) ∙ ap length past in
    rw (lt-leb r.end a u, lt-ltb a r.end u, le-ltb r.start e v, past, zero))
    (λ v. rw (lt-leb r.end a u, lt-ltb a r.end u, lt-ltb r.start e v, none) (ap (λ (l : List Range). clip a e r ∷ l) (rw none at ih)))

-- a record that ends at or before a does not overlap
both_few : (a e : ℕ) (rs : List Range) → firsts a rs + founds a e rs ≤ length rs
unfolding firsts founds overlaps
both_few a e [] = omega arith
both_few a e (r ∷ rs) =
    let ih = both_few a e rs in
    by_order r.end a (λ u. rw (le-leb r.end a u, le-ltb a r.end u) (omega arith)) λ u.
    rw (lt-leb r.end a u) (go (overlaps a e r) ih)
  where
    go : (b : Bool) → firsts a rs + founds a e rs ≤ length rs
        → firsts a rs + (if b then suc (founds a e rs) else founds a e rs) ≤ suc (length rs)
    go true ih = omega arith
    go false ih = omega arith

-- ---- what is written, from any record on
clipped : (n first a e : ℕ) (rs out : List Range) → first + n ≤ length rs → n ≤ length out
    → clipping n first a e rs out ≡ map (clip a e) (take n (drop first rs)) ++ drop n out
unfolding clipping
clipped zero first a e rs out h k = refl
clipped (suc n) first a e rs out h k =
    let done : List Range = map (clip a e) (take n (drop first rs)) in
    let size : length done ≡ n = rw length-map (length-take-le n (drop first rs) (rw length-drop (omega arith))) in
    let more = take-suc (drop first rs) n blank (rw length-drop (omega arith)) in
    rw (clipped n first a e rs out (omega arith) (omega arith), drop-cons out n blank k, more, get_or-drop, map-append, append_assoc)
    (set_at done (get_or out n blank) (drop (suc n) out) (clip a e (get_or rs (first + n) blank)) n size)

-- ---- after the first pass
pub scanned_both : (a e : ℕ) (rs : List Range) → (scanned a e begun rs).first + (scanned a e begun rs).found ≤ length rs
scanned_both a e rs = omega (arith, first_from a e begun rs, found_from a e begun rs, both_few a e rs)

pub scanned_found : (a e : ℕ) (rs : List Range) → length (iter_filter a e rs) ≡ (scanned a e begun rs).found
scanned_found a e rs = omega (arith, filter_long a e rs, found_from a e begun rs)

pub clips : (a e : ℕ) (rs rest out : List Range) → a < e → Ascends 0 rs → (scanned a e begun rs).found ≤ length out
    → clipping (scanned a e begun rs).found (scanned a e begun rs).first a e (rs ++ rest) out ≡ iter_filter a e rs
    ++ drop (scanned a e begun rs).found out
clips a e rs rest out k t h =
    let n : (scanned a e begun rs).found ≡ founds a e rs = omega (arith, found_from a e begun rs) in
    let first : (scanned a e begun rs).first ≡ firsts a rs = omega (arith, first_from a e begun rs) in let both = both_few a e rs in
    rw (
      n,
      first,
      clipped (founds a e rs) (firsts a rs) a e (rs ++ rest) out (rw length-append (omega arith)) (omega arith),
      drop-append-le (firsts a rs) rs rest (omega arith),
      take-append-le (founds a e rs) (drop (firsts a rs) rs) rest (rw length-drop (omega arith)),
      filter_is a e 0 rs k t,
    )
