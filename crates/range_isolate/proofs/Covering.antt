-- The steps of `cover`, over plain lists: what each arm of the Rust's loop does is what `isolate_from` says.
use Rattle.model.specs.Prelude.{ℕ, suc, max, add-zero, le_of_lt, arith, refl, sym, ap, ◌∙◌, Bool, true, false, List, [], append_assoc, leb}
use Rattle.model.specs.Prelude.{ltb, eqb, length, get_or, drop, length-append, length-drop, take_at, drop_at, slice_empty, length-take-le}
use Rattle.model.specs.Prelude.{get_or-take, get_or_at, lt-ltb, le-ltb, le-leb, lt-leb, eq-eqb, ne_eqb, leb-true, leb-false, ltb-false}
use Rattle.model.specs.{declared.Range.Range, RangedStates.{range, Rest, rest, with_run, isolate_from}}
use Rattle.std.specs.Prelude.{◌+◌, ◌*◌, ◌-◌, ◌≤◌, ◌<◌, ◌≡◌, ◌∷◌, ◌++◌, if◌then◌else◌}
use Rattle.range_isolate.specs.declared.isolation.Placed.{Placed}
use Rattle.range_isolate.specs.Isolation.{all_of, gap_before, gap_count, last_of, cut_count, Gapped, EndCut, CoverRoom, Covered}
use Rattle.range_states.specs.View.{view, decode, blank, Put, Becomes, view_long, becomes_none, becomes_live, becomes_then}
use Rattle.range_states.specs.Insert.{insert_at}
use Rattle.range_states.proofs.Inserting.{front_is, front_long, insert_is, joined_is, next_is, put_insert}

-- ---- `isolate_from`, case by case
pub by_order : {P : Type 0} (a b : ℕ) → (a ≤ b → P) → (b < a → P) → P
by_order {P} a b f g = go (leb a b) refl
  where
    go : (t : Bool) → leb a b ≡ t → P
    go true e = f (leb-true a b e)
    go false e = g (leb-false a b e)

module _ (p e d : ℕ) (x : Range) (s : List Range) where
  pub from_before : e ≤ x.start → isolate_from p e d (x ∷ s) ≡ rest (range p e d ∷ []) (x ∷ s)
  unfolding isolate_from
  from_before h = rw (le-leb e x.start h)

  pub from_last : x.start < e → e ≤ x.end
      → isolate_from p e d (x ∷ s) ≡ with_run (gap_before d p x.start) (last_of (max p x.start) e x s)
  unfolding isolate_from
  from_last h k = rw (lt-leb e x.start h) (ap (with_run (gap_before d p x.start)) (go (ltb e x.end) refl))
    where
      go : (t : Bool) → ltb e x.end ≡ t
          → (if t then rest (range (max p x.start) e x.state ∷ []) (range e x.end x.state ∷ s)
          else if eqb e x.end then rest (x ∷ []) s else with_run (x ∷ []) (isolate_from x.end e d s))
          ≡ (if t then rest (range (max p x.start) e x.state ∷ []) (range e x.end x.state ∷ s) else rest (x ∷ []) s)
      go true q = refl
      go false q = rw (eq-eqb e x.end (omega (arith, ltb-false e x.end q)))

  pub from_more : x.start < e → x.end < e
      → isolate_from p e d (x ∷ s) ≡ with_run (gap_before d p x.start) (with_run (x ∷ []) (isolate_from x.end e d s))
  unfolding isolate_from
  from_more h k = rw (lt-leb e x.start h, le-ltb e x.end (le_of_lt k), ne_eqb e x.end (λ q. omega arith))

pub gap_long : (d a b : ℕ) → length (gap_before d a b) ≡ gap_count a b
gap_long d a b = go (ltb a b)
  where
    go : (t : Bool) → length (if t then range a b d ∷ [] else []) ≡ (if t then 1 else 0)
    go true = refl
    go false = refl

-- ---- how long `isolate_from` makes the list
all_long : (g : List Range) (c : Rest) → length (all_of (with_run g c)) ≡ length g + length (all_of c)
all_long g c = rw (append_assoc, length-append)

last_long : (a e : ℕ) (x : Range) (s : List Range) → length (all_of (last_of a e x s)) ≡ suc (length s) + cut_count e x
last_long a e x s = go (ltb e x.end)
  where
    go : (t : Bool)
        → length (all_of (if t then rest (range a e x.state ∷ []) (range e x.end x.state ∷ s) else rest (x ∷ []) s))
        ≡ suc (length s) + (if t then 1 else 0)
    go true = omega arith
    go false = omega arith

module _ (e d p : ℕ) (x : Range) (s : List Range) where
  pub long_before : e ≤ x.start → length (all_of (isolate_from p e d (x ∷ s))) ≡ suc (suc (length s))
  long_before h = rw (from_before p e d x s h)

  pub long_last : x.start < e → e ≤ x.end
      → length (all_of (isolate_from p e d (x ∷ s))) ≡ gap_count p x.start + (suc (length s) + cut_count e x)
  long_last h k = rw (from_last p e d x s h k, all_long, gap_long, last_long)

  pub long_more : x.start < e → x.end < e
      → length (all_of (isolate_from p e d (x ∷ s))) ≡ gap_count p x.start + suc (length (all_of (isolate_from x.end e d s)))
  long_more h k = rw (from_more p e d x s h k, all_long, gap_long)

pub from_long : (e d p : ℕ) (s : List Range) → length s ≤ length (all_of (isolate_from p e d s))
from_long e d p [] = omega arith
from_long e d p (x ∷ s) =
    by_order e x.start (λ h. omega (arith, long_before e d p x s h)) λ h.
    by_order e x.end (λ k. omega (arith, long_last e d p x s h k)) λ k.
    omega (arith, long_more e d p x s h k, from_long e d x.end s)

gap_fits : (e d p : ℕ) (x : Range) (s : List Range) → x.start < e
    → suc (length s) + gap_count p x.start ≤ length (all_of (isolate_from p e d (x ∷ s)))
gap_fits e d p x s h =
    by_order e x.end (λ k. omega (arith, long_last e d p x s h k)) λ k.
    omega (arith, long_more e d p x s h k, from_long e d x.end s)

-- ---- `fill_gap`
pub gapped_yes : {l : List ℕ} {len pos at start d : ℕ} {l' : List ℕ} → 3 * (len + gap_count at start) ≤ length l → pos ≤ len → at < start
    → Becomes l (len + 1) (insert_at pos (range at start d) (decode len l)) l' → Gapped l len pos at start d 1 l'
gapped_yes {l} {len} {pos} {at} {start} {d} room h t b =
    record {
      few = omega arith;
      added = rw (lt-ltb at start t);
      into = rw (lt-ltb at start t, ← insert_is l len pos (omega arith) h (range at start d)) b;
    }

pub gapped_no : {l : List ℕ} {len pos at start d : ℕ} → 3 * (len + gap_count at start) ≤ length l → pos ≤ len → start ≤ at
    → Gapped l len pos at start d 0 l
gapped_no {l} {len} {pos} {at} {start} {d} room h t =
    record {
      few = omega arith;
      added = rw (le-ltb at start t);
      into = rw (le-ltb at start t, joined_is l len pos (omega arith) h, add-zero)
          (becomes_none l len (omega arith));
    }

-- ---- `cut_end`
pub uncut : {l : List ℕ} {len pos at e : ℕ} {x : Range} → 3 * (len + cut_count e (get_or (view l) pos blank)) ≤ length l → pos < len
    → x ≡ get_or (view l) pos blank → x.end ≤ e → EndCut l len pos at e 0 l
uncut {l} {len} {pos} {at} {e} {x} room h g t =
    let n : drop pos (decode len l) ≡ x ∷ drop (pos + 1) (decode len l) = next_is l len pos x (omega arith) h g in
    let w : decode pos l ++ (x ∷ drop (pos + 1) (decode len l)) ≡ decode len l = rw n at (joined_is l len pos (omega arith) (le_of_lt h)) in
    record { few = omega arith; fits = omega arith; into = rw (n, le-ltb e x.end t, w, add-zero) (becomes_none l len (omega arith)) }

pub cut_room : (l : List ℕ) (len pos e : ℕ) (x : Range) → 3 * (len + cut_count e (get_or (view l) pos blank)) ≤ length l
    → x ≡ get_or (view l) pos blank → e < x.end → 3 * (len + 1) ≤ length l
cut_room l len pos e x room g t = rw (← g, lt-ltb e x.end t) at room

pub cut : {l : List ℕ} {len pos at e : ℕ} {x : Range} {l₁ l₂ : List ℕ} → 3 * (len + cut_count e (get_or (view l) pos blank)) ≤ length l
    → pos < len → x ≡ get_or (view l) pos blank → e < x.end → Put l pos (range e x.end x.state) l₁
    → Becomes l₁ (len + 1) (insert_at pos (range at e x.state) (decode len l₁)) l₂ → EndCut l len pos at e 1 l₂
cut {l} {len} {pos} {at} {e} {x} room h g t p b =
    record {
      few = omega arith;
      fits = cut_room l len pos e x room g t;
      into = rw (next_is l len pos x (omega arith) h g, lt-ltb e x.end t)
          (put_insert (range at e x.state) (cut_room l len pos e x room g t) h p b);
    }

-- ---- the room at each step of `cover`
module _ {l : List ℕ} {len pos at e d : ℕ} (room : CoverRoom l len pos at e d) (h : pos ≤ len) where
  left_long : length (drop pos (decode len l)) ≡ len - pos
  left_long = rw length-drop (rw (length-take-le len (view l) (view_long l len room.fits)))

  pub room_end : pos ≡ len → 3 * (len + 1) ≤ length l
  unfolding isolate_from
  room_end z =
      let q : drop pos (decode len l) ≡ [] = rw z (slice_empty len (view l)) in
      let g : 3 * (pos + length (all_of (isolate_from at e d []))) ≤ length l = rw q at room.grown in omega arith

  module _ {x : Range} (ne : pos < len) (o : x ≡ get_or (view l) pos blank) where
    here : drop pos (decode len l) ≡ x ∷ drop (pos + 1) (decode len l)
    here = next_is l len pos x room.fits ne o

    grown_here : 3 * (pos + length (all_of (isolate_from at e d (x ∷ drop (pos + 1) (decode len l))))) ≤ length l
    grown_here = rw here at room.grown

    rest_long : suc (length (drop (pos + 1) (decode len l))) ≡ len - pos
    rest_long = sym (ap length here) ∙ left_long

    pub room_before : e ≤ x.start → 3 * (len + 1) ≤ length l
    room_before t = omega (arith, grown_here, rest_long, long_before e d at x (drop (pos + 1) (decode len l)) t)

    pub room_gap : x.start < e → 3 * (len + gap_count at x.start) ≤ length l
    room_gap t = omega (arith, grown_here, rest_long, gap_fits e d at x (drop (pos + 1) (decode len l)) t)

    room_cut : x.start < e → e ≤ x.end → 3 * (len + gap_count at x.start + cut_count e x) ≤ length l
    room_cut t k = omega (arith, grown_here, rest_long, long_last e d at x (drop (pos + 1) (decode len l)) t k)

    room_more : x.start < e → x.end < e
        → 3 * (pos + gap_count at x.start + 1 + length (all_of (isolate_from x.end e d (drop (pos + 1) (decode len l))))) ≤ length l
    room_more t k = omega (arith, grown_here, long_more e d at x (drop (pos + 1) (decode len l)) t k)

-- ---- each way out of `cover`
pub cover_end : {l : List ℕ} {len pos at e d : ℕ} {l' : List ℕ} → CoverRoom l len pos at e d → pos ≡ len
    → Becomes l (len + 1) (insert_at pos (range at e d) (decode len l)) l'
    → Covered l len pos at e d (record { len = len + 1; end = pos + 1 }) l'
unfolding isolate_from
cover_end {l} {len} {pos} {at} {e} {d} room h b =
    let z : drop pos (decode len l) ≡ [] = rw h (slice_empty len (view l)) in
    let i : insert_at pos (range at e d) (decode len l) ≡ decode pos l ++ (range at e d ∷ drop pos (decode len l)) =
    insert_is l len pos (omega arith) (omega arith) (range at e d) in
    record {
      low = omega arith;
      fits = room_end room (omega arith) h;
      some = omega arith;
      in_all = omega arith;
      end = rw z;
      into = rw z (rw (i, z) at b);
    }

pub cover_before : {l : List ℕ} {len pos at e d : ℕ} {x : Range} {l' : List ℕ} → CoverRoom l len pos at e d → pos < len
    → x ≡ get_or (view l) pos blank → e ≤ x.start → Becomes l (len + 1) (insert_at pos (range at e d) (decode len l)) l'
    → Covered l len pos at e d (record { len = len + 1; end = pos + 1 }) l'
cover_before {l} {len} {pos} {at} {e} {d} {x} room h g t b =
    let n : drop pos (decode len l) ≡ x ∷ drop (pos + 1) (decode len l) = next_is l len pos x room.fits h g in
    let f = from_before at e d x (drop (pos + 1) (decode len l)) t in
    let i : insert_at pos (range at e d) (decode len l) ≡ decode pos l ++ (range at e d ∷ drop pos (decode len l)) =
    insert_is l len pos room.fits (le_of_lt h) (range at e d) in
    record {
      low = omega arith;
      fits = room_before room (le_of_lt h) h g t;
      some = omega arith;
      in_all = omega arith;
      end = rw (n, f);
      into = rw (n, f) (rw (i, n) at b);
    }

-- after the gap is filled: the front with the gap's record, and the back
module _ (l : List ℕ) (len pos at d : ℕ) (x : Range) (g : ℕ) (l₁ : List ℕ) (room : 3 * (len + gap_count at x.start) ≤ length l)
    (h : pos < len) (q : Gapped l len pos at x.start d g l₁) where
  abbrev front : List Range
  front = decode pos l ++ gap_before d at x.start

  front_size : length front ≡ pos + g
  front_size = length-append (decode pos l) (gap_before d at x.start)
      ∙ rw (front_long l len pos (omega arith) (le_of_lt h), gap_long d at x.start, q.added)

  filled_all : decode (len + g) l₁ ≡ front ++ drop pos (decode len l)
  filled_all = becomes_live q.into ∙ sym (append_assoc (decode pos l) (gap_before d at x.start) (drop pos (decode len l)))

  filled_room : 3 * (len + g) ≤ length l₁
  filled_room = omega (arith, q.into.long, q.added)

  filled_take : decode (pos + g) l₁ ≡ front
  filled_take =
      sym (front_is l₁ (len + g) (pos + g) filled_room (omega arith))
      ∙ rw filled_all (take_at front (drop pos (decode len l)) (pos + g) front_size)

  filled_drop : drop (pos + g) (decode (len + g) l₁) ≡ drop pos (decode len l)
  filled_drop = rw filled_all (drop_at front (drop pos (decode len l)) (pos + g) front_size)

  module _ (e : ℕ) (o : x ≡ get_or (view l) pos blank) (t : x.start < e) where
    abbrev behind : List Range
    behind = drop (pos + 1) (decode len l)

    this : drop pos (decode len l) ≡ x ∷ behind
    this = next_is l len pos x (omega arith) h o

    abbrev past : List Range
    past = front ++ (x ∷ [])

    past_size : length past ≡ pos + g + 1
    past_size = length-append front (x ∷ []) ∙ rw front_size

    past_all : decode (len + g) l₁ ≡ past ++ behind
    past_all = filled_all ∙ rw this (simp append_assoc)

    past_take : decode (pos + g + 1) l₁ ≡ past
    past_take =
        sym (front_is l₁ (len + g) (pos + g + 1) filled_room (omega arith))
        ∙ rw past_all (take_at past behind (pos + g + 1) past_size)

    past_drop : drop (pos + g + 1) (decode (len + g) l₁) ≡ behind
    past_drop = rw past_all (drop_at past behind (pos + g + 1) past_size)

    pub cover_room : CoverRoom l len pos at e d → x.end < e → CoverRoom l₁ (len + g) (pos + g + 1) x.end e d
    cover_room rm k =
        record { fits = filled_room; grown = rw past_drop (omega (arith, room_more rm (le_of_lt h) h o t k, q.added, q.into.long)) }

    cut_at : get_or (view l₁) (pos + g) blank ≡ x
    cut_at =
        sym (get_or-take (len + g) (view l₁) (pos + g) blank (omega arith))
        ∙ rw (filled_all, this) (get_or_at front x behind blank (pos + g) front_size)

    pub cut_fits : CoverRoom l len pos at e d → e ≤ x.end → 3 * (len + g + cut_count e (get_or (view l₁) (pos + g) blank)) ≤ length l₁
    cut_fits rm k = rw cut_at (omega (arith, room_cut rm (le_of_lt h) h o t k, q.added, q.into.long))

    -- what is made here: the gap, and then the rest
    here_is : (c : Rest) → isolate_from at e d (x ∷ behind) ≡ with_run (gap_before d at x.start) c
        → decode pos l ++ all_of (isolate_from at e d (drop pos (decode len l))) ≡ front ++ all_of c
    here_is c u = rw (this, u) (simp append_assoc)

    here_runs : (c : Rest) → isolate_from at e d (x ∷ behind) ≡ with_run (gap_before d at x.start) c
        → length (isolate_from at e d (drop pos (decode len l))).run ≡ g + length c.run
    here_runs c u = rw (this, u, length-append, gap_long d at x.start, ← q.added)

    last_runs : (a : ℕ) → length (last_of a e x behind).run ≡ 1
    last_runs a = go (ltb e x.end)
      where
        go : (b : Bool)
            → length (if b then rest (range a e x.state ∷ []) (range e x.end x.state ∷ behind) else rest (x ∷ []) behind).run
            ≡ 1
        go true = refl
        go false = refl

    pub cover_cut : (from hh : ℕ) (l₂ : List ℕ) → 3 * (len + g + hh) ≤ length l → e ≤ x.end → from ≡ max at x.start
        → EndCut l₁ (len + g) (pos + g) from e hh l₂ → Covered l len pos at e d (record { len = len + g + hh; end = pos + g + 1 }) l₂
    cover_cut from hh l₂ ft k f c =
        let i = from_last at e d x behind t k in
        let u : decode pos l ++ all_of (isolate_from at e d (drop pos (decode len l))) ≡ front ++ all_of (last_of from e x behind) =
        rw f (here_is (last_of (max at x.start) e x behind) i) in
        let b : Becomes l₁ (len + g + hh) (front ++ all_of (last_of from e x behind)) l₂ = rw (filled_take, filled_drop, this) at c.into in
        let v = here_runs (last_of (max at x.start) e x behind) i in
        record {
          low = omega arith;
          fits = ft;
          some = omega arith;
          in_all = omega arith;
          end = omega (arith, v, last_runs (max at x.start));
          into = rw u (becomes_then q.into (omega arith) b);
        }

    pub cover_more : (r : Placed) (l₂ : List ℕ) → x.end < e → Covered l₁ (len + g) (pos + g + 1) x.end e d r l₂
        → Covered l len pos at e d r l₂
    cover_more r l₂ k c =
        let i = from_more at e d x behind t k in let more : Rest = with_run (x ∷ []) (isolate_from x.end e d behind) in
        let u : decode pos l ++ all_of (isolate_from at e d (drop pos (decode len l))) ≡ front ++ all_of more = here_is more i in
        let b : Becomes l₁ r.len ((front ++ (x ∷ [])) ++ all_of (isolate_from x.end e d behind)) l₂ =
        rw (past_take, past_drop) at c.into in
        let b' : Becomes l₁ r.len (front ++ all_of more) l₂ =
        rw (append_assoc front (x ∷ []) (all_of (isolate_from x.end e d behind))) at b in
        let v = here_runs more i in
        let w : r.end ≡ pos + g + 1 + length (isolate_from x.end e d behind).run = rw past_drop at c.end in
        record {
          low = omega (arith, c.low);
          fits = omega (arith, c.fits, q.into.long);
          some = omega (arith, c.some);
          in_all = c.in_all;
          end = omega arith;
          into = rw u (becomes_then q.into c.low b');
        }
