-- What the first pass finds: whether the records ascend, and how many of everything there are.
use Rattle.std.specs.Int.{from_bool}
use Rattle.model.specs.Prelude.{ℕ, suc, min, max, le_trans, arith, refl, sym, ap, ◌∙◌, Bool, true}
use Rattle.model.specs.Prelude.{false, and-true, and_assoc, List, [], leb, ltb}
use Rattle.model.specs.Prelude.{length, get_or, length-append, lt-ltb, le-ltb, le-leb, lt-leb}
use Rattle.model.specs.{declared.Range.Range, RangedStates.{range, list_of, isolate}, RangeCalls.ascends}
use Rattle.std.specs.Prelude.{◌+◌, ◌≤◌, ◌<◌, ◌≡◌, ◌&&◌, ◌∷◌, if◌then◌else◌}
use Rattle.range_states.specs.{View.blank, Filtering.overlaps}
use Rattle.range_records.specs.declared.decisions.Scan.{Scan}
use Rattle.range_records.specs.Passes.{begun, follows_of, look_of, scanned, gaps_of, length_of, Few}
use Rattle.range_records.proofs.Laws.Pieces.{Ascends, part, pieces, belows, middles, pieced}
use Rattle.range_isolate.proofs.Covering.{by_order}

-- ---- no count is more than one a record
count_few : (b : Bool) → from_bool b ≤ 1
count_few true = omega arith
count_few false = omega arith

look_few : (a e : ℕ) (s : Scan) (r : Range) (k : ℕ) → Few s k → Few (look_of a e s r) (suc k)
unfolding look_of overlaps
look_few a e s r k f =
    record {
      first = omega (arith, f.first, count_few (leb r.end a));
      found = omega (arith, f.found, count_few (overlaps a e r));
      gaps = omega (arith, f.gaps, count_few (ltb (max s.from a) (min r.start e)));
      lead = omega (arith, f.lead, count_few (ltb r.start a && ltb a r.end));
      tail = omega (arith, f.tail, count_few (ltb r.start e && ltb e r.end));
    }

few_from : (a e : ℕ) (s : Scan) (k m : ℕ) (rs : List Range) → k + length rs ≡ m → Few s k → Few (scanned a e s rs) m
unfolding scanned
few_from a e s k m [] q f = let h : k ≡ m = omega arith in rw h at f
few_from a e s k m (r ∷ rs) q f = few_from a e (look_of a e s r) (suc k) m rs (omega arith) (look_few a e s r k f)

few_under : {k m : ℕ} {s : Scan} → Few s k → k ≤ m → Few s m
few_under f h = record {
  first = le_trans f.first h;
  found = le_trans f.found h;
  gaps = le_trans f.gaps h;
  lead = le_trans f.lead h;
  tail = le_trans f.tail h;
}

pub scanned_few : (a e m : ℕ) (rs : List Range) → length rs ≤ m → Few (scanned a e begun rs) m
scanned_few a e m rs h = few_under (few_from a e begun 0 (length rs) rs (omega arith) (omega arith)) h

-- ---- whether they ascend, and where the last one ends
ascends_from : (a e : ℕ) (s : Scan) (rs : List Range) → (scanned a e s rs).ascends ≡ (s.ascends && ascends s.from rs)
unfolding scanned look_of
ascends_from a e s [] = sym (and-true s.ascends)
ascends_from a e s (r ∷ rs) = ascends_from a e (look_of a e s r) rs ∙ and_assoc s.ascends (follows_of s.from r) (ascends r.end rs)

pub scanned_ascends : (a e : ℕ) (rs : List Range) → (scanned a e begun rs).ascends ≡ ascends 0 rs
scanned_ascends a e rs = ascends_from a e begun rs

pub scanned_end : (a e : ℕ) (s : Scan) (r : Range) (rs : List Range)
    → (get_or (r ∷ rs) (length rs) blank).end ≡ (scanned a e s (r ∷ rs)).from
unfolding scanned look_of
scanned_end a e s r [] = refl
scanned_end a e s r (q ∷ rs) = scanned_end a e (look_of a e s r) q rs

-- ---- how many pieces there are
part_long : (x y s : ℕ) → length (part x y s) ≡ from_bool (ltb x y)
unfolding part
part_long x y s = go (ltb x y)
  where
    go : (t : Bool) → length (if t then range x y s ∷ [] else []) ≡ from_bool t
    go true = refl
    go false = refl

count_lt : (x y : ℕ) → x < y → from_bool (ltb x y) ≡ 1
count_lt x y h = rw (lt-ltb x y h)

count_ge : (x y : ℕ) → y ≤ x → from_bool (ltb x y) ≡ 0
count_ge x y h = rw (le-ltb x y h)

-- a record has something before a if it ends there, or is cut there
below_count : (a : ℕ) (r : Range) → r.start < r.end
    → from_bool (ltb r.start (min r.end a)) ≡ from_bool (leb r.end a) + from_bool (ltb r.start a && ltb a r.end)
below_count a r h =
    by_order r.end a (λ u. rw (le-leb r.end a u, lt-ltb r.start a (omega arith), le-ltb a r.end u)
    (count_lt r.start (min r.end a) (omega arith))) λ u.
    by_order a r.start (λ v. rw (lt-leb r.end a u, le-ltb r.start a v) (count_ge r.start (min r.end a) (omega arith))) λ v.
    rw (lt-leb r.end a u, lt-ltb r.start a v, lt-ltb a r.end u) (count_lt r.start (min r.end a) (omega arith))

-- a record has something between a and e if it overlaps a .. e
inner_count : (a e : ℕ) (r : Range) → a < e → r.start < r.end → from_bool (ltb (max r.start a) (min r.end e)) ≡ from_bool (overlaps a e r)
unfolding overlaps
inner_count a e r k h =
    by_order r.end a (λ u. rw (le-ltb a r.end u) (count_ge (max r.start a) (min r.end e) (omega arith))) λ u.
    by_order e r.start (λ v. rw (lt-ltb a r.end u, le-ltb r.start e v) (count_ge (max r.start a) (min r.end e) (omega arith))) λ v.
    rw (lt-ltb a r.end u, lt-ltb r.start e v) (count_lt (max r.start a) (min r.end e) (omega arith))

-- what it has past e is one piece more if e cuts it, or is all that it has
above_count : (a e : ℕ) (r : Range) → a < e → r.start < r.end
    → from_bool (leb r.end a) + from_bool (overlaps a e r) + from_bool (ltb (max r.start e) r.end)
    ≡ 1 + from_bool (ltb r.start e && ltb e r.end)
unfolding overlaps
above_count a e r k h =
    by_order e r.start
    (λ u. rw (lt-leb r.end a (omega arith), lt-ltb a r.end (omega arith), le-ltb r.start e u, count_lt (max r.start e) r.end (omega arith)))
    λ u.
    by_order r.end e
    (λ v. rw (lt-ltb r.start e u, le-ltb e r.end v, count_ge (max r.start e) r.end (omega arith))
    (by_order r.end a (λ w. rw (le-leb r.end a w, le-ltb a r.end w)) (λ w. rw (lt-leb r.end a w, lt-ltb a r.end w)))) λ v.
    rw (
      lt-leb r.end a (omega arith),
      lt-ltb a r.end (omega arith),
      lt-ltb r.start e u,
      lt-ltb e r.end v,
      count_lt (max r.start e) r.end (omega arith),
    )

-- ---- the counts, after any records
belows_long : (a e : ℕ) (s : Scan) (rs : List Range) → Ascends s.from rs
    → (scanned a e s rs).first + (scanned a e s rs).lead ≡ s.first + s.lead + length (belows a rs)
unfolding scanned look_of belows
belows_long a e s [] t = omega arith
belows_long a e s (r ∷ rs) t =
    let ih = belows_long a e (look_of a e s r) rs t.2 in
    simp (length-append, part_long) (omega (arith, ih, below_count a r t.1))

middles_long : (a e d : ℕ) (s : Scan) (rs : List Range) → a < e → Ascends s.from rs
    → (scanned a e s rs).found + gaps_of a e (scanned a e s rs) ≡ s.found + s.gaps + length (middles a e d s.from rs)
unfolding scanned look_of middles
middles_long a e d s [] k t = omega (arith, part_long (max s.from a) e d)
middles_long a e d s (r ∷ rs) k t =
    let ih = middles_long a e d (look_of a e s r) rs k t.2 in
    simp (length-append, part_long) (omega (arith, ih, inner_count a e r k t.1))

pieces_long : (a e d g : ℕ) (s : Scan) (rs : List Range) → a < e → e ≤ g → Ascends s.from rs
    → length rs + gaps_of a e (scanned a e s rs) + (scanned a e s rs).lead + (scanned a e s rs).tail
    ≡ s.gaps + s.lead + s.tail + length (pieces a e d g s.from rs)
unfolding scanned look_of pieces
pieces_long a e d g s [] k f t = let high : min g e ≡ e = omega arith in rw (high, part_long) (omega arith)
pieces_long a e d g s (r ∷ rs) k f t =
    let ih = pieces_long a e d g (look_of a e s r) rs k f t.2 in
    simp (length-append, part_long) (omega (arith, ih, below_count a r t.1, inner_count a e r k t.1, above_count a e r k t.1))

-- ---- what `isolate` tells
pub record Tells (a e d : ℕ) (rs : List Range) (z : Scan) : Type 0 where
  pub position : length (isolate a e d rs).before ≡ z.first + z.lead
  pub count : length (isolate a e d rs).run ≡ z.found + gaps_of a e z
  pub all : length (list_of (isolate a e d rs)) ≡ length_of a e (length rs) z

pub scanned_tells : (a e d : ℕ) (rs : List Range) → a < e → Ascends 0 rs → Tells a e d rs (scanned a e begun rs)
scanned_tells a e d rs k t =
    let i = pieced a e d e 0 rs (omega arith) k (omega arith) t in
    record {
      position = omega (arith, ap length i.before, belows_long a e begun rs t);
      count = omega (arith, ap length i.run, middles_long a e d begun rs k t);
      all = omega (arith, ap length i.all, pieces_long a e d e begun rs k (omega arith) t);
    }
