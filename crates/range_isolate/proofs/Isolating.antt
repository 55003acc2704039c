-- `isolate` is: find, cut the start, cover.
use Rattle.std.specs.Prelude.{◌+◌, ◌*◌, ◌-◌, ◌≤◌, ◌<◌, ◌≡◌, ◌∷◌, ◌++◌, if◌then◌else◌}
use Rattle.model.specs.Prelude.{ℕ, suc, add-zero, arith, refl, sym, ap, ◌∙◌, Bool, true, false, List, []}
use Rattle.model.specs.Prelude.{leb, ltb, length, get_or, take, drop, length-append, length-drop, slice_empty, length-take-le}
use Rattle.model.specs.Prelude.{take-append-add, drop-append-add, lt-ltb, le-ltb, leb-true, leb-false}
use Rattle.model.specs.{declared.Range.Range, RangedStates.{range, list_of, isolate_from, isolate}}
use Rattle.range_isolate.specs.declared.isolation.Placed.{Placed}
use Rattle.range_isolate.specs.Isolation.{all_of, first_past, cut_first, lead_count, Found, StartCut, CoverRoom, Covered, IsolateRoom}
use Rattle.range_isolate.specs.Isolation.{Isolating}
use Rattle.range_states.specs.View.{view, decode, blank, Put, Becomes, view_long, becomes_none, becomes_live, becomes_then}
use Rattle.range_states.specs.Insert.{insert_at}
use Rattle.range_isolate.proofs.Covering.{from_long}
use Rattle.range_states.proofs.Inserting.{front_is, front_long, joined_is, next_is, put_insert}

-- ---- `first_past`
pub record Looking (l : List ℕ) (len x k : ℕ) : Type 0 where
  pub high : k ≤ len
  pub is : k + first_past x (drop k (decode len l)) ≡ first_past x (decode len l)

pub look_on : {l : List ℕ} {len x k : ℕ} {r : Range} → 3 * len ≤ length l → Looking l len x k → k < len → r ≡ get_or (view l) k blank
    → r.end ≤ x → Looking l len x (k + 1)
unfolding first_past
look_on {l} {len} {x} {k} {r} room j h g t =
    let n : k + first_past x (r ∷ drop (k + 1) (decode len l)) ≡ first_past x (decode len l) = rw (next_is l len k r room h g) at j.is in
    let m : k + suc (first_past x (drop (k + 1) (decode len l))) ≡ first_past x (decode len l) = rw (le-ltb x r.end t) at n in
    record { high = omega arith; is = omega arith }

pub look_here : {l : List ℕ} {len x k : ℕ} {r : Range} → 3 * len ≤ length l → Looking l len x k → k < len → r ≡ get_or (view l) k blank
    → x < r.end → Found l len x k
unfolding first_past
look_here {l} {len} {x} {k} {r} room j h g t =
    let n : k + first_past x (r ∷ drop (k + 1) (decode len l)) ≡ first_past x (decode len l) = rw (next_is l len k r room h g) at j.is in
    let m : k + 0 ≡ first_past x (decode len l) = rw (lt-ltb x r.end t) at n in
    record { few = omega arith; is = omega arith }

pub look_end : {l : List ℕ} {len x k : ℕ} → Looking l len x k → len ≤ k → Found l len x len
unfolding first_past
look_end {l} {len} {x} {k} j h =
    let e : k ≡ len = omega arith in let z : drop k (decode len l) ≡ [] = rw e (slice_empty len (view l)) in
    let m : k + 0 ≡ first_past x (decode len l) = rw z at j.is in
    record { few = omega arith; is = omega arith }

-- ---- `cut_start`
pub start_end : {l : List ℕ} {len pos x : ℕ} → 3 * (len + lead_count x (drop pos (decode len l))) ≤ length l
    → pos ≡ len → StartCut l len pos x 0 l
unfolding cut_first lead_count
start_end {l} {len} {pos} {x} room h =
    let z : drop pos (decode len l) ≡ [] = rw h (slice_empty len (view l)) in
    let w : decode pos l ++ [] ≡ decode len l = rw z at (joined_is l len pos (omega arith) (omega arith)) in
    record { few = omega arith; added = rw z; into = rw (z, w, add-zero) (becomes_none l len (omega arith)) }

pub start_uncut : {l : List ℕ} {len pos x : ℕ} {r : Range} → 3 * (len + lead_count x (drop pos (decode len l))) ≤ length l → pos ≤ len
    → (pos ≡ len → ⊥) → r ≡ get_or (view l) pos blank → x ≤ r.start → StartCut l len pos x 0 l
unfolding cut_first lead_count
start_uncut {l} {len} {pos} {x} {r} room h ne g t =
    let n : drop pos (decode len l) ≡ r ∷ drop (pos + 1) (decode len l) = next_is l len pos r (omega arith) (omega arith) g in
    let w : decode pos l ++ (r ∷ drop (pos + 1) (decode len l)) ≡ decode len l = rw n at (joined_is l len pos (omega arith) h) in
    record {
      few = omega arith;
      added = rw (n, le-ltb r.start x t);
      into = rw (n, le-ltb r.start x t, w, add-zero) (becomes_none l len (omega arith));
    }

pub start_room_lem : (l : List ℕ) (len pos x : ℕ) (r : Range) → 3 * (len + lead_count x (drop pos (decode len l))) ≤ length l → pos ≤ len
    → (pos ≡ len → ⊥) → r ≡ get_or (view l) pos blank → r.start < x → 3 * (len + 1) ≤ length l
unfolding lead_count
start_room_lem l len pos x r room h ne g t = rw (next_is l len pos r (omega arith) (omega arith) g, lt-ltb r.start x t) at room

pub start_cut : {l : List ℕ} {len pos x : ℕ} {r : Range} {l₁ l₂ : List ℕ} → 3 * (len + lead_count x (drop pos (decode len l))) ≤ length l
    → pos ≤ len → (pos ≡ len → ⊥) → r ≡ get_or (view l) pos blank → r.start < x → Put l pos (range x r.end r.state) l₁
    → Becomes l₁ (len + 1) (insert_at pos (range r.start x r.state) (decode len l₁)) l₂ → StartCut l len pos x 1 l₂
unfolding cut_first lead_count
start_cut {l} {len} {pos} {x} {r} room h ne g t p b =
    let n : drop pos (decode len l) ≡ r ∷ drop (pos + 1) (decode len l) = next_is l len pos r (omega arith) (omega arith) g in
    record {
      few = omega arith;
      added = rw (n, lt-ltb r.start x t);
      into = rw (n, lt-ltb r.start x t)
          (put_insert (range r.start x r.state) (start_room_lem l len pos x r room h ne g t) (omega arith) p b);
    }

-- ---- the model's `isolate`, by where the first range past a stands
pub record Splits (a e d : ℕ) (l : List Range) (p g : ℕ) (m : List Range) : Type 0 where
  pub high : p ≤ length l
  pub before : (isolate a e d l).before ≡ take p l ++ take g m
  pub run : (isolate a e d l).run ≡ (isolate_from a e d (drop g m)).run
  pub after : (isolate a e d l).after ≡ (isolate_from a e d (drop g m)).after

abbrev Split : ℕ → ℕ → ℕ → List Range → Type 0
Split a e d l = Splits a e d l (first_past a l) (lead_count a (drop (first_past a l) l)) (cut_first a (drop (first_past a l) l))

pub splits : (a e d : ℕ) (l : List Range) → Split a e d l
unfolding isolate first_past cut_first lead_count
splits a e d [] = record { high = omega arith; before = refl; run = refl; after = refl }
splits a e d (r ∷ s) = go (leb r.end a) refl (splits a e d s)
  where
    starts : (t : Bool) → ltb r.start a ≡ t → ltb a r.end ≡ true → leb r.end a ≡ false → Split a e d (r ∷ s)
    starts true q u v = record { high = rw u (omega arith); before = rw (u, v, q); run = rw (u, v, q); after = rw (u, v, q) }
    starts false q u v = record { high = rw u (omega arith); before = rw (u, v, q); run = rw (u, v, q); after = rw (u, v, q) }

    go : (t : Bool) → leb r.end a ≡ t → Split a e d s → Split a e d (r ∷ s)
    go true q ih =
        let u = le-ltb a r.end (leb-true r.end a q) in
        record {
          high = rw u (omega (arith, ih.high));
          before = rw (u, q) (ap (λ (t : List Range). r ∷ t) ih.before);
          run = rw (u, q) ih.run;
          after = rw (u, q) ih.after;
        }
    go false q ih = starts (ltb r.start a) refl (lt-ltb a r.end (leb-false r.end a q)) q

cut_long : (a : ℕ) (l : List Range) → length (cut_first a l) ≡ length l + lead_count a l
unfolding cut_first lead_count
cut_long a [] = refl
cut_long a (r ∷ l) = go (ltb r.start a)
  where
    go : (t : Bool)
        → length (if t then range r.start a r.state ∷ range a r.end r.state ∷ l else r ∷ l)
        ≡ suc (length l) + (if t then 1 else 0)
    go true = omega arith
    go false = omega arith

-- how many ranges it leaves
pub isolate_long : (a e d : ℕ) (l : List Range) (p g : ℕ) → p ≡ first_past a l → g ≡ lead_count a (drop p l)
    → length (list_of (isolate a e d l)) ≡ p + g + length (all_of (isolate_from a e d (drop g (cut_first a (drop p l)))))
isolate_long a e d l p g u v =
    let m : List Range = cut_first a (drop p l) in let s : Splits a e d l p g m = rw (v, u) (splits a e d l) in
    let n : length m ≡ length (drop p l) + g = rw v (cut_long a (drop p l)) in
    rw (s.before, s.run, s.after) (simp (length-append, length-take-le p l s.high, length-take-le g m (omega arith)) (omega arith))

pub start_fits : {l : List ℕ} {len a e d p : ℕ} → IsolateRoom l len a e d → Found l len a p
    → 3 * (len + lead_count a (drop p (decode len l))) ≤ length l
start_fits {l} {len} {a} {e} {d} {p} room f =
    let v : length (decode len l) ≡ len = length-take-le len (view l) (view_long l len room.fits) in
    let g : ℕ = lead_count a (drop p (decode len l)) in let m : List Range = cut_first a (drop p (decode len l)) in
    let n : length m ≡ length (drop p (decode len l)) + g = cut_long a (drop p (decode len l)) in
    let k : length (drop g m) ≡ length m - g = length-drop g m in
    omega (
      arith,
      room.grown,
      isolate_long a e d (decode len l) p g f.is refl,
      from_long e d a (drop g m),
      length-drop p (decode len l),
      f.few,
    )

module _ {l : List ℕ} {len a p g : ℕ} {l₁ : List ℕ} (fits : 3 * len ≤ length l) (f : Found l len a p) (q : StartCut l len p a g l₁)
    (room₁ : 3 * (len + g) ≤ length l₁) where
  abbrev mid : List Range
  mid = cut_first a (drop p (decode len l))

  cut_all : decode (len + g) l₁ ≡ decode p l ++ mid
  cut_all = becomes_live q.into

  cut_front : length (decode p l) ≡ p
  cut_front = front_long l len p fits f.few

  cut_drop : drop (p + g) (decode (len + g) l₁) ≡ drop g mid
  cut_drop = rw cut_all (rw cut_front at (drop-append-add (decode p l) mid g))

  cut_take : decode (p + g) l₁ ≡ decode p l ++ take g mid
  cut_take = sym (front_is l₁ (len + g) (p + g) room₁ (omega (arith, f.few)))
      ∙ rw cut_all (rw cut_front at (take-append-add (decode p l) mid g))

pub cover_fits : {l : List ℕ} {len a e d p g : ℕ} {l₁ : List ℕ} → IsolateRoom l len a e d → Found l len a p → StartCut l len p a g l₁
    → CoverRoom l₁ (len + g) (p + g) a e d
cover_fits {l} {len} {a} {e} {d} {p} {g} {l₁} room f q =
    let s : 3 * (len + lead_count a (drop p (decode len l))) ≤ length l = start_fits room f in
    let room₁ : 3 * (len + g) ≤ length l₁ = omega (arith, q.added, q.into.long) in
    let i = isolate_long a e d (decode len l) p g f.is q.added in
    record { fits = room₁; grown = rw (cut_drop room.fits f q room₁) (omega (arith, room.grown, q.into.long)) }

pub isolates : {l : List ℕ} {len a e d p g : ℕ} {l₁ : List ℕ} {r : Placed} {l₂ : List ℕ} → IsolateRoom l len a e d → Found l len a p
    → StartCut l len p a g l₁ → Covered l₁ (len + g) (p + g) a e d r l₂
    → Isolating l len a e d (record { len = r.len; position = p + g; end = r.end }) l₂
isolates {l} {len} {a} {e} {d} {p} {g} {l₁} {r} {l₂} room f q c =
    let m : List Range = cut_first a (drop p (decode len l)) in
    let s : Splits a e d (decode len l) p g m = rw (q.added, f.is) (splits a e d (decode len l)) in
    let room₁ : 3 * (len + g) ≤ length l₁ = omega (arith, q.into.long, c.low, c.fits) in
    let t : (isolate a e d (decode len l)).before ≡ decode (p + g) l₁ = s.before
    ∙ rw (front_is l len p room.fits f.few) (sym (cut_take room.fits f q room₁)) in
    let u : isolate_from a e d (drop (p + g) (decode (len + g) l₁)) ≡ isolate_from a e d (drop g m) = rw (cut_drop room.fits f q room₁) in
    record {
      low = omega (arith, c.low);
      fits = omega (arith, c.fits, q.into.long);
      some = c.some;
      in_all = c.in_all;
      position = rw t (sym (front_long l₁ (len + g) (p + g) room₁ (omega (arith, f.few))));
      end = rw (s.run, ← u) c.end;
      into = rw (s.run, s.after, t, ← u) (becomes_then q.into c.low c.into);
    }
