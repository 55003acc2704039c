-- The second pass of `isolate`: the pieces are written from the last to the first, and never onto a record that is still to be read.
use Rattle.model.specs.Prelude.{ℕ, zero, suc, min, max, arith, refl, sym, ap, ◌∙◌, List, [], append_assoc, append-nil, eqb, eqb_suc_zero}
use Rattle.model.specs.Prelude.{length, get_or, take, drop, set, length-append, length-set, take-suc, take-take, take-length, take-set-le}
use Rattle.model.specs.Prelude.{get_or-take, drop_at, set_split, length-take-le, lt-ltb, le-ltb, eq-eqb, ne_eqb}
use Rattle.model.specs.{declared.Range.Range, RangedStates.{range, list_of, isolate}}
use Rattle.std.specs.Prelude.{◌-◌, ◌≤◌, ◌<◌, ◌≡◌, ◌∷◌, ◌++◌, if◌then◌else◌}
use Rattle.range_states.specs.View.{blank}
use Rattle.range_records.specs.{declared.decisions.Piece.Piece, Passes.{begun, scanned, lower_of, cut_piece, cutting}}
use Rattle.range_records.proofs.{Laws.Pieces.{Ascends, part, part_some, part_none, slices, pieces, pieced}, Laws.Survey.scanned_end}
use Rattle.range_isolate.proofs.Covering.{by_order}

-- ---- ascending records, one by one
at : (from : ℕ) (rs : List Range) (i : ℕ) → i < length rs → Ascends from rs
    → (from ≤ (get_or rs i blank).start) × ((get_or rs i blank).start < (get_or rs i blank).end)
at from [] i h t = absurd (omega arith)
at from (r ∷ rs) zero h t = (t.0, t.1)
at from (r ∷ rs) (suc i) h t = let u = at r.end rs i (omega arith) t.2 in (omega arith, u.1)

next : (from : ℕ) (rs : List Range) (i : ℕ) → suc i < length rs → Ascends from rs
    → (get_or rs i blank).end ≤ (get_or rs (suc i) blank).start
next from [] i h t = absurd (omega arith)
next from (r ∷ rs) zero h t = (at r.end rs 0 (omega arith) t.2).0
next from (r ∷ rs) (suc i) h t = next r.end rs i (omega arith) t.2

ascends_take : (from : ℕ) (rs : List Range) (i : ℕ) → Ascends from rs → Ascends from (take i rs)
ascends_take from rs zero t = tt
ascends_take from [] (suc i) t = tt
ascends_take from (r ∷ rs) (suc i) t = (t.0, t.1, ascends_take r.end rs i t.2)

-- ---- the last slice of a record up to t, from b: all of the record, or what is before it is the record up to b
record Last (a e : ℕ) (r : Range) (t b : ℕ) : Type 0 where
  low : r.start ≤ b
  high : b < t
  whole : b ≡ r.start → slices a e r t ≡ range b t r.state ∷ []
  more : r.start < b → slices a e r t ≡ slices a e r b ++ (range b t r.state ∷ [])

module _ (a e : ℕ) (r : Range) (t : ℕ) (k : a < e) (h : r.start < t) where
  last_above : e < t → Last a e r t (max r.start e)
  unfolding slices
  last_above u =
      let b = max r.start e in let above = part_some b t r.state b t refl refl (omega arith) in
      record {
        low = omega arith;
        high = omega arith;
        whole = λ q. rw (
          part_none r.start (min t a) r.state (omega arith),
          part_none (max r.start a)
              (min t e) r.state (omega arith),
          above,
        );
        more = λ q.
            let low : min b a ≡ min t a = omega arith in let high : min b e ≡ min t e = omega arith in
            rw (low, high, above, part_none b b r.state (omega arith), append-nil) (simp append_assoc);
      }

  last_inner : t ≤ e → a < t → Last a e r t (max r.start a)
  unfolding slices
  last_inner u v =
      let b = max r.start a in let inner = part_some b (min t e) r.state b t refl (omega arith) (omega arith) in
      let above = part_none (max r.start e) t r.state (omega arith) in
      record {
        low = omega arith;
        high = omega arith;
        whole = λ q. rw (part_none r.start (min t a) r.state (omega arith), inner, above);
        more = λ q.
            let low : min b a ≡ min t a = omega arith in
            rw (
              low,
              inner,
              above,
              part_none b (min b e) r.state (omega arith),
              part_none (max r.start e) b r.state (omega arith),
              append-nil,
            );
      }

  last_below : t ≤ a → Last a e r t r.start
  unfolding slices
  last_below u =
      record {
        low = omega arith;
        high = h;
        whole = λ q.
            let below = part_some r.start (min t a) r.state r.start t refl (omega arith) h in
            rw (below, part_none (max r.start a) (min t e) r.state (omega arith), part_none (max r.start e) t r.state (omega arith));
        more = λ q. absurd (omega arith);
      }

  last_is : Last a e r t (lower_of r.start t a e)
  last_is =
      by_order t e
      (λ u. rw (le-ltb e t u) (by_order t a (λ v. rw (le-ltb a t v) (last_below v)) (λ v. rw (lt-ltb a t v) (last_inner u v))))
      (λ u. rw (lt-ltb e t u) (last_above u))

-- ---- every record has a piece
slices_some : (a e : ℕ) (r : Range) (t : ℕ) → a < e → r.start < t → 1 ≤ length (slices a e r t)
slices_some a e r t k h =
    let b = lower_of r.start t a e in let l = last_is a e r t k h in
    by_order b r.start
    (λ u. rw (l.whole (omega (arith, l.low))) (omega arith))
    (λ u. rw (l.more u) (rw length-append (omega arith)))

pieces_few : (a e d g from : ℕ) (rs : List Range) → a < e → Ascends from rs → length rs ≤ length (pieces a e d g from rs)
unfolding pieces
pieces_few a e d g from [] k t = omega arith
pieces_few a e d g from (r ∷ rs) k t =
    let ih = pieces_few a e d g r.end rs k t.2 in let some = slices_some a e r r.end k t.1 in
    omega (
      arith,
      length-append (part (max from a) (min r.start e) d) (slices a e r r.end ++ pieces a e d g r.end rs),
      length-append (slices a e r r.end) (pieces a e d g r.end rs),
    )

-- ---- the pieces of one record more
pieces_snoc : (a e d g from : ℕ) (rs : List Range) (r : Range)
    → pieces a e d g from (rs ++ (r ∷ [])) ≡ pieces a e d r.start from rs ++ (slices a e r r.end ++ part (max r.end a) (min g e) d)
unfolding pieces
pieces_snoc a e d g from [] r = refl
pieces_snoc a e d g from (q ∷ rs) r = rw (pieces_snoc a e d g q.end rs r) (simp append_assoc)

-- what is left to write while the first i records are left to read: their pieces up to g
left : ℕ → ℕ → ℕ → List Range → ℕ → ℕ → List Range
left a e d rs zero g = part (max 0 a) (min g e) d
left a e d rs (suc i) g =
    let r = get_or rs i blank in pieces a e d r.start 0 (take i rs) ++ (slices a e r (min r.end g) ++ part (max r.end a) (min g e) d)

-- up to a g past the end of the last of them, it is all of their pieces
left_is : (a e d : ℕ) (rs : List Range) (i g : ℕ) → i < length rs → (get_or rs i blank).end ≤ g
    → left a e d rs (suc i) g ≡ pieces a e d g 0 (take (suc i) rs)
unfolding left
left_is a e d rs i g h k =
    let r : Range = get_or rs i blank in let top : min r.end g ≡ r.end = omega arith in
    rw (top, take-suc rs i blank h) (sym (pieces_snoc a e d g 0 (take i rs) r))

-- the last of them starts before g, so that it has a piece
abbrev Ready : List Range → ℕ → ℕ → Type 0
Ready rs zero g = Unit
Ready rs (suc i) g = (i < length rs) × ((get_or rs i blank).start < g)

-- no fewer pieces than records: a piece is never written onto a record that is still to be read
left_few : (a e d : ℕ) (rs : List Range) (i g : ℕ) → a < e → Ascends 0 rs → Ready rs i g → i ≤ length (left a e d rs i g)
unfolding left
left_few a e d rs zero g k t o = omega arith
left_few a e d rs (suc i) g k t o =
    let r : Range = get_or rs i blank in let few = pieces_few a e d r.start 0 (take i rs) k (ascends_take 0 rs i t) in
    let some = slices_some a e r (min r.end g) k (omega (arith, at 0 rs i o.0 t)) in
    simp length-append (omega (arith, length-take-le i rs (omega arith)))

-- when a record is done, the one before it is whole
left_before : (a e d : ℕ) (rs : List Range) (i : ℕ) → i < length rs → Ascends 0 rs
    → left a e d rs i (get_or rs i blank).start ≡ pieces a e d (get_or rs i blank).start 0 (take i rs)
unfolding left pieces
left_before a e d rs zero h t = refl
left_before a e d rs (suc i) h t = left_is a e d rs i (get_or rs (suc i) blank).start (omega arith) (next 0 rs i h t)

ready_before : (rs : List Range) (i : ℕ) → i < length rs → Ascends 0 rs → Ready rs i (get_or rs i blank).start
ready_before rs zero h t = tt
ready_before rs (suc i) h t = (omega arith, omega (arith, at 0 rs i (omega arith) t, next 0 rs i h t))

-- ---- the next piece is the last of what is left, and what is before it is left then
record Pops (a e d : ℕ) (rs : List Range) (i g : ℕ) (p : Piece) : Type 0 where
  is : left a e d rs i g ≡ left a e d rs p.left p.range.start ++ (p.range ∷ [])
  ready : Ready rs p.left p.range.start
  few : p.left ≤ i

-- the gap before all records
pops_first : (a e d : ℕ) (rs : List Range) (g : ℕ) (r : Range) → 0 < length (left a e d rs 0 g) → Pops a e d rs 0 g (cut_piece 0 r g a e d)
unfolding left cut_piece
pops_first a e d rs g r n =
    by_order (min g e) (max 0 a) (λ u. absurd (omega (arith, ap length (part_none (max 0 a) (min g e) d u)))) λ u.
    rw (lt-ltb (max 0 a) (min g e) u)
    record {
      is = rw (part_some (max 0 a) (min g e) d (max 0 a) (min g e) refl refl u, part_none (max 0 a) (min (max 0 a) e) d (omega arith));
      ready = tt;
      few = omega arith;
    }

module _ (a e d : ℕ) (rs : List Range) (i g : ℕ) (k : a < e) (t : Ascends 0 rs) (o : Ready rs (suc i) g) where
  abbrev r : Range
  r = get_or rs i blank

  -- a gap after the record
  pops_gap : max r.end a < min g e → Pops a e d rs (suc i) g (record { range = range (max r.end a) (min g e) d; left = suc i })
  unfolding left
  pops_gap u =
      let top : min r.end g ≡ r.end = omega arith in let top' : min r.end (max r.end a) ≡ r.end = omega arith in
      let gap = part_some (max r.end a) (min g e) d (max r.end a) (min g e) refl refl u in
      let none = part_none (max r.end a) (min (max r.end a) e) d (omega arith) in
      record {
        is = rw (top, top', gap, none, append-nil) (simp append_assoc);
        ready = (o.0, omega (arith, at 0 rs i o.0 t));
        few = omega arith;
      }

  -- the upper part of the record
  pops_slice : (b : ℕ) → min g e ≤ max r.end a → Last a e r (min r.end g) b
      → Pops a e d rs (suc i) g (record { range = range b (min r.end g) r.state; left = if eqb b r.start then suc i - 1 else suc i })
  unfolding left
  pops_slice b u l =
      let none = part_none (max r.end a) (min g e) d u in
      by_order b r.start
      (λ v. let q : b ≡ r.start = omega (arith, l.low) in
      let z : suc i - 1 ≡ i = omega arith in
      rw (eq-eqb b r.start q, z) record {
        is = rw (none, l.whole q, append-nil, q, left_before a e d rs i o.0 t);
        ready = rw q (ready_before rs i o.0 t);
        few = omega arith;
      })
      (λ v. let q = ne_eqb b r.start (λ x. omega arith) in
      let top : min r.end b ≡ b = omega (arith, l.high) in
      rw q record {
        is = rw (none, l.more v, top, part_none (max r.end a) (min b e) d (omega (arith, l.high)))
            (simp (append-nil, append_assoc));
        ready = (o.0, v);
        few = omega arith;
      })

  pops_last : Pops a e d rs (suc i) g (cut_piece (suc i) r g a e d)
  unfolding cut_piece
  pops_last =
      by_order (min g e) (max r.end a)
      (λ u. rw (eqb_suc_zero i, le-ltb (max r.end a) (min g e) u)
      (pops_slice (lower_of r.start (min r.end g) a e) u (last_is a e r (min r.end g) k (omega (arith, o.1, at 0 rs i o.0 t)))))
      (λ u. rw (eqb_suc_zero i, lt-ltb (max r.end a) (min g e) u) (pops_gap u))

-- the record that is read, the last of i
pops : (a e d : ℕ) (rs : List Range) (i g : ℕ) (l : List Range) → a < e → Ascends 0 rs → Ready rs i g → take i l ≡ take i rs
    → 0 < length (left a e d rs i g)
    → Pops a e d rs i g (cut_piece i (get_or l (i - 1) blank) g a e d)
pops a e d rs zero g l k t o q n = pops_first a e d rs g (get_or l (0 - 1) blank) n
pops a e d rs (suc i) g l k t o q n =
    let z : suc i - 1 ≡ i = omega arith in
    let same : get_or l i blank ≡ get_or rs i blank = sym (get_or-take (suc i) l i blank (omega arith))
    ∙ rw q (get_or-take (suc i) rs i blank (omega arith)) in
    rw (z, same) (pops_last a e d rs i g k t o)

-- ---- so all that is left is written, before what stands from w on
none_long : (l : List Range) → length l ≡ 0 → l ≡ []
none_long [] h = refl
none_long (r ∷ l) h = absurd (omega arith)

-- what one turn writes, and what it leaves to the next
module _ (a e d : ℕ) (rs : List Range) (w i g : ℕ) (l : List Range) (p : Piece) (k : a < e) (t : Ascends 0 rs) (q : take i l ≡ take i rs)
    (n : length (left a e d rs i g) ≡ suc w) (m : Pops a e d rs i g p) where
  turn_long : length (left a e d rs p.left p.range.start) ≡ w
  turn_long = omega (arith, n, ap length m.is, length-append (left a e d rs p.left p.range.start) (p.range ∷ []))

  -- records that are still to be read stand before w
  turn_unread : take p.left (set l w p.range) ≡ take p.left rs
  turn_unread =
      take-set-le p.left l w p.range (omega (arith, turn_long, left_few a e d rs p.left p.range.start k t m.ready))
      ∙ sym (take-take p.left i l m.few) ∙ rw q (take-take p.left i rs m.few)

  turn_written : suc w ≤ length l → left a e d rs p.left p.range.start ++ drop w (set l w p.range) ≡ left a e d rs i g ++ drop (suc w) l
  turn_written h =
      rw (set_split l w p.range h, drop_at (take w l) (p.range ∷ drop (suc w) l) w (length-take-le w l (omega arith)), m.is)
      (simp append_assoc)

cut : (a e d : ℕ) (rs : List Range) (w i g : ℕ) (l : List Range) → a < e → Ascends 0 rs → Ready rs i g → take i l ≡ take i rs
    → length (left a e d rs i g) ≡ w → w ≤ length l
    → cutting w i g a e d l ≡ left a e d rs i g ++ drop w l
unfolding cutting
cut a e d rs zero i g l k t o q n h = rw (none_long (left a e d rs i g) n)
cut a e d rs (suc w) i g l k t o q n h =
    let p = cut_piece i (get_or l (i - 1) blank) g a e d in let m = pops a e d rs i g l k t o q (omega arith) in
    cut a e d rs w p.left p.range.start (set l w p.range) k t m.ready (turn_unread a e d rs w i g l p k t q n m)
    (turn_long a e d rs w i g l p k t q n m)
    (omega (arith, length-set l w p.range))
    ∙ turn_written a e d rs w i g l p k t q n m h

-- ---- from the last record on, this is `isolate`
left_all : (a e d : ℕ) (rs : List Range)
    → left a e d rs (length rs) (max (scanned a e begun rs).from e) ≡ pieces a e d (max (scanned a e begun rs).from e) 0 rs
unfolding left pieces
left_all a e d [] = refl
left_all a e d (r ∷ rs) =
    let g = max (scanned a e begun (r ∷ rs)).from e in
    left_is a e d (r ∷ rs) (length rs) g (omega arith) (omega (arith, scanned_end a e begun r rs))
    ∙ ap (λ (l : List Range). pieces a e d g 0 (r ∷ l)) (take-length rs)

ready_all : (a e : ℕ) (rs : List Range) → Ascends 0 rs → Ready rs (length rs) (max (scanned a e begun rs).from e)
ready_all a e [] t = tt
ready_all a e (r ∷ rs) t = (omega arith, omega (arith, scanned_end a e begun r rs, at 0 (r ∷ rs) (length rs) (omega arith) t))

pub cuts : (a e d : ℕ) (rs l : List Range) → a < e → Ascends 0 rs → take (length rs) l ≡ rs → length (list_of (isolate a e d rs)) ≤ length l
    → cutting (length (list_of (isolate a e d rs))) (length rs) (max (scanned a e begun rs).from e) a e d l ≡ list_of (isolate a e d rs)
    ++ drop (length (list_of (isolate a e d rs))) l
cuts a e d rs l k t q h =
    let g = max (scanned a e begun rs).from e in
    let i : left a e d rs (length rs) g ≡ list_of (isolate a e d rs) = left_all a e d rs
    ∙ sym (pieced a e d g 0 rs (omega arith) k (omega arith) t).all in
    rw (← i) (cut a e d rs (length (left a e d rs (length rs) g)) (length rs) g l k t (ready_all a e rs t) (rw take-length q) refl (rw i h))
