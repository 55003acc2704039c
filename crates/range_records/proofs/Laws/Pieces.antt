-- The model's `isolate` piece by piece: what each record, and each gap before one, leaves.
use Rattle.model.specs.Prelude.{ℕ, min, max, arith, refl, sym, ap, true, List, [], append_assoc, leb, ltb, lt-ltb, le-ltb, le-leb, lt-leb}
use Rattle.model.specs.Prelude.{leb-true, ltb-true}
use Rattle.model.specs.declared.{Range.Range}
use Rattle.model.specs.RangedStates.{range, Cut, Rest, rest, with_run, cut_at, with_before, list_of, isolate_from, isolate}
use Rattle.model.specs.{RangeCalls.ascends, BoolLaws.and_both as both}
use Rattle.std.specs.Prelude.{◌≤◌, ◌<◌, ◌≡◌, ◌&&◌, ◌∷◌, ◌++◌, if◌then◌else◌}
use Rattle.range_isolate.specs.Isolation.{all_of, gap_before}
use Rattle.range_isolate.proofs.Covering.{by_order, from_before, from_last, from_more}

-- ---- ascending records, as facts
abbrev pub Ascends : ℕ → List Range → Type 0
Ascends from [] = Unit
Ascends from (r ∷ s) = (from ≤ r.start) × (r.start < r.end) × Ascends r.end s

pub ascending : (from : ℕ) (rs : List Range) → ascends from rs ≡ true → Ascends from rs
ascending from [] q = tt
ascending from (r ∷ s) q =
    let u = both (leb from r.start && ltb r.start r.end) (ascends r.end s) q in
    let v = both (leb from r.start) (ltb r.start r.end) u.0 in
    (leb-true from r.start v.0, ltb-true r.start r.end v.1, ascending r.end s u.1)

-- ---- what stands from x to y: a range, or nothing
unfoldable pub part : ℕ → ℕ → ℕ → List Range
part x y s = if ltb x y then range x y s ∷ [] else []

pub part_some : (x y s v w : ℕ) → x ≡ v → y ≡ w → v < w → part x y s ≡ range v w s ∷ []
unfolding part
part_some x y s v w p q h = rw (p, q, lt-ltb v w h)

pub part_none : (x y s : ℕ) → y ≤ x → part x y s ≡ []
unfolding part
part_none x y s h = rw (le-ltb x y h)

-- a record up to t, cut at a and at e
unfoldable pub slices : ℕ → ℕ → Range → ℕ → List Range
slices a e r t = part r.start (min t a) r.state ++ (part (max r.start a) (min t e) r.state ++ part (max r.start e) t r.state)

-- all pieces, those up to g, of records that follow `from`
unfoldable pub pieces : ℕ → ℕ → ℕ → ℕ → ℕ → List Range → List Range
unfolding slices part
pieces a e d g from [] = part (max from a) (min g e) d
pieces a e d g from (r ∷ rs) = part (max from a) (min r.start e) d ++ (slices a e r r.end ++ pieces a e d g r.end rs)

-- those before a
unfoldable pub belows : ℕ → List Range → List Range
unfolding part
belows a [] = []
belows a (r ∷ rs) = part r.start (min r.end a) r.state ++ belows a rs

-- those from a to e
unfoldable pub middles : ℕ → ℕ → ℕ → ℕ → List Range → List Range
unfolding part
middles a e d from [] = part (max from a) e d
middles a e d from (r ∷ rs) = part (max from a) (min r.start e) d ++ (part (max r.start a) (min r.end e) r.state ++ middles a e d r.end rs)

-- ---- records past the end are left whole
pub pieces_past : (a e d g from : ℕ) (rs : List Range) → a < e → e ≤ from → Ascends from rs → pieces a e d g from rs ≡ rs
unfolding pieces slices
pieces_past a e d g from [] h k s = part_none (max from a) (min g e) d (omega arith)
pieces_past a e d g from (r ∷ rs) h k s =
    rw (
      part_none (max from a) (min r.start e) d (omega arith),
      part_none r.start (min r.end a) r.state (omega arith),
      part_none (max r.start a) (min r.end e) r.state (omega arith),
      part_some (max r.start e) r.end r.state r.start r.end (omega arith) refl s.1,
      pieces_past a e d g r.end rs h (omega arith) s.2,
    )

middles_past : (a e d from : ℕ) (rs : List Range) → e ≤ from → Ascends from rs → middles a e d from rs ≡ []
unfolding middles
middles_past a e d from [] k s = part_none (max from a) e d (omega arith)
middles_past a e d from (r ∷ rs) k s =
    rw (part_none (max from a) (min r.start e) d (omega arith), part_none (max r.start a) (min r.end e) r.state (omega arith))
    (middles_past a e d r.end rs (omega arith) s.2)

belows_past : (a from : ℕ) (rs : List Range) → a ≤ from → Ascends from rs → belows a rs ≡ []
unfolding belows
belows_past a from [] k s = refl
belows_past a from (r ∷ rs) k s = rw (part_none r.start (min r.end a) r.state (omega arith)) (belows_past a r.end rs (omega arith) s.2)

-- ---- `isolate_from`: the run, and the run with what follows it
record Runs (a e d g p : ℕ) (s : List Range) (c : Rest) : Type 0 where
  run : c.run ≡ middles a e d p s
  all : all_of c ≡ pieces a e d g p s

module _ (a e d g p : ℕ) (r : Range) (s : List Range) (h : a ≤ p) (k : p < e) (t : Ascends p (r ∷ s)) where
  runs_before : e ≤ r.start → Runs a e d g p (r ∷ s) (rest (range p e d ∷ []) (r ∷ s))
  unfolding middles pieces slices
  runs_before u =
      let gap = part_some (max p a) (min r.start e) d p e (omega arith) (omega arith) k in
      let below = part_none r.start (min r.end a) r.state (omega arith) in
      let inner = part_none (max r.start a) (min r.end e) r.state (omega arith) in
      let above = part_some (max r.start e) r.end r.state r.start r.end (omega arith) refl t.1 in
      record {
        run = rw (gap, inner, middles_past a e d r.end s (omega arith) t.2);
        all = rw (gap, below, inner, above, pieces_past a e d g r.end s (omega arith) (omega arith) t.2);
      }

  gap_is : r.start < e → part (max p a) (min r.start e) d ≡ gap_before d p r.start
  unfolding part
  gap_is u =
      let low : max p a ≡ p = omega arith in let high : min r.start e ≡ r.start = omega arith in
      rw (low, high)

  runs_cut : r.start < e → e < r.end
      → Runs a e d g p (r ∷ s) (with_run (gap_before d p r.start) (rest (range (max p r.start) e r.state ∷ []) (range e r.end r.state ∷ s)))
  unfolding middles pieces slices
  runs_cut u v =
      let low : max p r.start ≡ r.start = omega arith in let below = part_none r.start (min r.end a) r.state (omega arith) in
      let inner = part_some (max r.start a) (min r.end e) r.state r.start e (omega arith) (omega arith) u in
      let above = part_some (max r.start e) r.end r.state e r.end (omega arith) refl v in
      record {
        run = rw (low, gap_is u, inner, middles_past a e d r.end s (omega arith) t.2);
        all = rw (low, gap_is u, below, inner, above, pieces_past a e d g r.end s (omega arith) (omega arith) t.2, append_assoc);
      }

  runs_on : (c : Rest) → r.start < e → r.end ≤ e → Runs a e d g r.end s c
      → Runs a e d g p (r ∷ s) (with_run (gap_before d p r.start) (with_run (r ∷ []) c))
  unfolding middles pieces slices
  runs_on c u v ih =
      let below = part_none r.start (min r.end a) r.state (omega arith) in
      let inner = part_some (max r.start a) (min r.end e) r.state r.start r.end (omega arith) (omega arith) t.1 in
      let above = part_none (max r.start e) r.end r.state (omega arith) in
      record {
        run = rw (gap_is u, inner, ih.run);
        all = rw (gap_is u, below, inner, above, ← ih.all, append_assoc);
      }

runs : (a e d g p : ℕ) (s : List Range) → a ≤ p → p < e → e ≤ g → Ascends p s → Runs a e d g p s (isolate_from p e d s)
unfolding isolate_from middles pieces
runs a e d g p [] h k f t =
    record {
      run = sym (part_some (max p a) e d p e (omega arith) refl k);
      all =
          sym (part_some (max p a) (min g e) d p e (omega arith) (omega arith) k);
    }
runs a e d g p (r ∷ s) h k f t =
    by_order e r.start (λ u. rw (from_before p e d r s u) (runs_before a e d g p r s h k t u)) λ u.
    by_order e r.end
    (λ v. rw (from_last p e d r s u v) (by_order r.end e
    (λ w. rw (le-ltb e r.end w) (runs_on a e d g p r s h k t (rest [] s) u w
    (record { run = sym (middles_past a e d r.end s v t.2); all = sym (pieces_past a e d g r.end s (omega arith) v t.2) })))
    (λ w. rw (lt-ltb e r.end w) (runs_cut a e d g p r s h k t u w))))
    (λ v. rw (from_more p e d r s u v) (runs_on a e d g p r s h k t (isolate_from r.end e d s) u (omega arith)
    (runs a e d g r.end s (omega arith) v f t.2)))

-- ---- `isolate`: what lies before the index, its run, and the whole
pub record Pieced (a e d g from : ℕ) (s : List Range) (c : Cut) : Type 0 where
  pub before : c.before ≡ belows a s
  pub run : c.run ≡ middles a e d from s
  pub all : list_of c ≡ pieces a e d g from s

module _ (a e d g from : ℕ) (r : Range) (s : List Range) (h : from ≤ a) (k : a < e) (f : e ≤ g) (t : Ascends from (r ∷ s)) where
  pieced_whole : (c : Cut) → r.end ≤ a → Pieced a e d g r.end s c → Pieced a e d g from (r ∷ s) (with_before r c)
  unfolding belows middles pieces slices
  pieced_whole c u ih =
      let gap = part_none (max from a) (min r.start e) d (omega arith) in
      let below = part_some r.start (min r.end a) r.state r.start r.end refl (omega arith) t.1 in
      let inner = part_none (max r.start a) (min r.end e) r.state (omega arith) in
      let above = part_none (max r.start e) r.end r.state (omega arith) in
      record { before = rw (below, ih.before); run = rw (gap, inner, ih.run); all = rw (gap, below, inner, above, ← ih.all) }

  pieced_lead : r.start < a → a < r.end
      → Pieced a e d g from (r ∷ s) (cut_at (range r.start a r.state ∷ []) (isolate_from a e d (range a r.end r.state ∷ s)))
  unfolding belows middles pieces slices
  pieced_lead u v =
      let i = runs a e d g a (range a r.end r.state ∷ s) (omega arith) k f (omega arith, v, t.2) in
      let gap = part_none (max from a) (min r.start e) d (omega arith) in let gap' = part_none (max a a) (min a e) d (omega arith) in
      let below = part_some r.start (min r.end a) r.state r.start a refl (omega arith) u in
      let below' = part_none a (min r.end a) r.state (omega arith) in let low : max r.start a ≡ max a a = omega arith in
      let high : max r.start e ≡ max a e = omega arith in
      record {
        before = rw (below, belows_past a r.end s (omega arith) t.2);
        run = rw (gap, low) (rw gap' at i.run);
        all = rw (gap, below, low, high) (ap (λ (l : List Range). range r.start a r.state ∷ l) (rw (gap', below') at i.all));
      }

  pieced_here : a ≤ r.start → Pieced a e d g from (r ∷ s) (cut_at [] (isolate_from a e d (r ∷ s)))
  unfolding belows middles pieces slices
  pieced_here u =
      let i = runs a e d g a (r ∷ s) (omega arith) k f (u, t.1, t.2) in
      let below = part_none r.start (min r.end a) r.state (omega arith) in let low : max from a ≡ max a a = omega arith in
      record { before = rw (below, belows_past a r.end s (omega arith) t.2); run = rw low i.run; all = rw low i.all }

pub pieced : (a e d g from : ℕ) (s : List Range) → from ≤ a → a < e → e ≤ g → Ascends from s → Pieced a e d g from s (isolate a e d s)
unfolding isolate isolate_from belows middles pieces
pieced a e d g from [] h k f t =
    record {
      before = refl;
      run = sym (part_some (max from a) e d a e (omega arith) refl k);
      all = sym (part_some (max from a) (min g e) d a e (omega arith) (omega arith) k);
    }
pieced a e d g from (r ∷ s) h k f t =
    by_order r.end a (λ u. rw (le-leb r.end a u)
    (pieced_whole a e d g from r s h k f t (isolate a e d s) u (pieced a e d g r.end s u k f t.2))) λ u.
    by_order a r.start (λ v. rw (lt-leb r.end a u, le-ltb r.start a v) (pieced_here a e d g from r s h k f t v)) λ v.
    rw (lt-leb r.end a u, lt-ltb r.start a v) (pieced_lead a e d g from r s h k f t v u)
