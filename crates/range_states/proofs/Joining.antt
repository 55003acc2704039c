-- The loop of `coalesce`, over plain lists: at its head the first w records are made, and those from w on are as they came.
use Rattle.model.specs.Prelude.{ℕ, suc, add-one, arith, refl, sym, ap, ◌∙◌, Bool, true, false, List, [], append_assoc, append-nil, length}
use Rattle.model.specs.Prelude.{get_or, take, drop, replicate, length-set, set-get_or, take-suc, drop-set-lt, take-suc-set, slice-cons}
use Rattle.model.specs.Prelude.{slice_empty, length-take-le}
use Rattle.model.specs.{declared.Range.Range, RangedStates.{range, joins, coalesce_from, coalesce}}
use Rattle.std.specs.Prelude.{◌+◌, ◌*◌, ◌-◌, ◌≤◌, ◌<◌, ◌≡◌, ◌∷◌, ◌++◌}
use Rattle.range_states.proofs.Agree.{agree_drop, agree_at}
use Rattle.range_states.specs.{View.{view, spare, decode, blank, Put, Becomes, view_long, becomes_none}, Coalescing.{Apart, Coalesced}}

-- ---- `coalesce_from`, by what `joins` says
pub joins_yes : (cur next : Range) (l : List Range) → joins cur next ≡ true
    → coalesce_from cur (next ∷ l) ≡ coalesce_from (range cur.start next.end cur.state) l
unfolding coalesce_from
joins_yes cur next l e = rw e

pub joins_no : (cur next : Range) (l : List Range) → joins cur next ≡ false → coalesce_from cur (next ∷ l) ≡ cur ∷ coalesce_from next l
unfolding coalesce_from
joins_no cur next l e = rw e

pub record Joining (s₀ : List ℕ) (len : ℕ) (s : List ℕ) (w i : ℕ) (cur : Range) : Type 0 where
  pub order : w < i
  pub high : i ≤ len
  pub made : take w (view s) ++ coalesce_from cur (drop i (take len (view s₀))) ≡ coalesce (take len (view s₀))
  pub unread : drop w (view s) ≡ drop w (view s₀)
  pub rest : spare s ≡ spare s₀
  pub long : length s ≡ length s₀

pub start_of : {s : List ℕ} {len : ℕ} {cur : Range} → 3 * len ≤ length s → (len ≡ 0 → ⊥)
    → cur ≡ get_or (view s) 0 blank → Joining s len s 0 1 cur
unfolding coalesce coalesce_from
start_of {s} {len} {cur} room h e =
    let v : len ≤ length (view s) = view_long s len room in let p : 0 < len = omega arith in
    record {
      order = omega arith;
      high = omega arith;
      made = rw e (ap coalesce (sym (slice-cons 0 len (view s) blank p v)));
      unread = refl;
      rest = refl;
      long = refl;
    }

-- what is left to read, with the record that is read next in front
next_is : {s₀ : List ℕ} {len : ℕ} {s : List ℕ} {w i : ℕ} {cur next : Range} → 3 * len ≤ length s₀ → Joining s₀ len s w i cur → i < len
    → next ≡ get_or (view s) i blank → drop i (take len (view s₀)) ≡ next ∷ drop (i + 1) (take len (view s₀))
next_is {s₀} {len} {s} {w} {i} room j t e =
    rw (add-one, e, agree_at (view s) (view s₀) w j.unread i blank (omega arith))
    (slice-cons i len (view s₀) blank t (view_long s₀ len room))

pub turn_yes : {s₀ : List ℕ} {len : ℕ} {s : List ℕ} {w i : ℕ} {cur next : Range} {b : Bool} → 3 * len ≤ length s₀ → Joining s₀ len s w i cur
    → i < len → next ≡ get_or (view s) i blank → b ≡ joins cur next → b ≡ true
    → Joining s₀ len s w (i + 1) (range cur.start next.end cur.state)
turn_yes {s₀} {len} {s} {w} {i} {cur} {next} room j t e f g =
    record {
      order = omega (arith, j.order);
      high = omega arith;
      made = ap (λ (l : List Range). take w (view s) ++ l) (sym (joins_yes cur next (drop (i + 1) (take len (view s₀))) (sym f ∙ g))
          ∙ sym (ap (coalesce_from cur) (next_is room j t e))) ∙ j.made;
      unread = j.unread;
      rest = j.rest;
      long = j.long;
    }

pub turn_no : {s₀ : List ℕ} {len : ℕ} {s : List ℕ} {w i : ℕ} {cur next : Range} {b : Bool} {s' : List ℕ} → 3 * len ≤ length s₀
    → Joining s₀ len s w i cur → i < len → next ≡ get_or (view s) i blank → b ≡ joins cur next → b ≡ false → Put s w cur s'
    → Joining s₀ len s' (w + 1) (i + 1) next
turn_no {s₀} {len} {s} {w} {i} {cur} {next} {b} {s'} room j t e f g p =
    let v : len ≤ length (view s) = view_long s len (omega (arith, j.long)) in
    let q : take (w + 1) (view s') ≡ take w (view s) ++ (cur ∷ []) = rw (p.seen, add-one) (take-suc-set (view s) w cur (omega arith)) in
    record {
      order = omega arith;
      high = omega arith;
      made =
          rw (q, append_assoc)
          (ap (λ (l : List Range). take w (view s) ++ l) (sym (joins_no cur next (drop (i + 1) (take len (view s₀))) (sym f ∙ g))
          ∙ sym (ap (coalesce_from cur) (next_is room j t e))) ∙ j.made);
      unread = rw p.seen (drop-set-lt (w + 1) (view s) w cur (omega arith))
          ∙ agree_drop (view s) (view s₀) w j.unread (w + 1) (omega arith);
      rest = p.rest ∙ j.rest;
      long = p.long ∙ j.long;
    }

-- ---- up to the first record that joins, what would be written is there already
put_same : (s : List ℕ) (w : ℕ) (r : Range) → r ≡ get_or (view s) w blank → Put s w r s
put_same s w r e = record { seen = rw e (sym (set-get_or (view s) w blank)); rest = refl; long = refl }

pub record Reading (s : List ℕ) (len i : ℕ) (cur : Range) : Type 0 where
  pub here : cur ≡ get_or (view s) (i - 1) blank
  pub so_far : Joining s len s (i - 1) i cur

pub reading_start : {s : List ℕ} {len : ℕ} {cur : Range} → 3 * len ≤ length s → 0 < len
    → cur ≡ get_or (view s) 0 blank → Reading s len 1 cur
reading_start room h e = record { here = e; so_far = start_of room (λ z. omega arith) e }

pub reading_on : {s : List ℕ} {len i : ℕ} {cur next : Range} {b : Bool} → 3 * len ≤ length s → Reading s len i cur → i < len
    → next ≡ get_or (view s) i blank → b ≡ joins cur next → b ≡ false → Reading s len (i + 1) next
reading_on {s} {len} {i} {cur} {next} room j t e f g =
    let z : i + 1 - 1 ≡ i = omega arith in let y : i - 1 + 1 ≡ i = omega (arith, j.so_far.order) in
    let k : Joining s len s i (i + 1) next = rw y at (turn_no room j.so_far t e f g (put_same s (i - 1) cur j.here)) in
    record { here = rw z e; so_far = rw z k }

-- where none joins, nothing changes
pub all_apart : {s : List ℕ} {len r : ℕ} → 3 * len ≤ length s → Apart s len r → r ≡ len → Coalesced s len len s
unfolding coalesce_from
all_apart {s} {len} {r} room a e =
    let v : len ≤ length (view s) = view_long s len room in let p : 0 < len = omega (arith, a.some) in
    let x : take (len - 1) (view s) ++ (get_or (view s) (len - 1) blank ∷ []) ≡ coalesce (take len (view s)) =
    rw (e, slice_empty len (view s)) at a.made in
    let y : take (suc (len - 1)) (view s) ≡ take (len - 1) (view s) ++ (get_or (view s) (len - 1) blank ∷ []) =
    take-suc (view s) (len - 1) blank (omega arith) in
    let z : suc (len - 1) ≡ len = omega arith in let m : coalesce (take len (view s)) ≡ take len (view s) = sym x ∙ sym (rw z at y) in
    let n : len - len ≡ 0 = omega arith in
    let o : coalesce (take len (view s)) ++ replicate (len - len) blank ≡ take len (view s) = rw (m, n) (append-nil (take len (view s))) in
    record { few = omega arith; count = rw m (sym (length-take-le len (view s) v)); into = rw o (becomes_none s len room) }

pub finish : {s₀ : List ℕ} {len : ℕ} {s : List ℕ} {w i : ℕ} {cur : Range} {s₁ s₂ : List ℕ} → 3 * len ≤ length s₀ → Joining s₀ len s w i cur
    → len ≤ i → Put s w cur s₁ → Becomes s₁ len (decode (w + 1) s₁ ++ replicate (len - (w + 1)) blank) s₂ → Coalesced s₀ len (w + 1) s₂
unfolding coalesce_from
finish {s₀} {len} {s} {w} {i} {cur} {s₁} {s₂} room j t p q =
    let v : len ≤ length (view s) = view_long s len (omega (arith, j.long)) in let e : i ≡ len = omega arith in
    let j' : Joining s₀ len s w len cur = rw e at j in
    let m : take w (view s) ++ (cur ∷ []) ≡ coalesce (take len (view s₀)) = rw (slice_empty len (view s₀)) at j'.made in
    let n : take (w + 1) (view s₁) ≡ coalesce (take len (view s₀)) =
    rw (p.seen, add-one) (take-suc-set (view s) w cur (omega arith)) ∙ m in
    let r : length (view s₁) ≡ length (view s) = ap length p.seen ∙ length-set (view s) w cur in
    record {
      few = omega arith;
      count = rw (← n) (sym (length-take-le (w + 1) (view s₁) (omega arith)));
      into =
          record {
            size = rw (← n) q.size;
            seen =
                q.seen
                ∙ rw n
                (ap (λ (l : List Range). (coalesce (decode len s₀) ++ replicate (len - (w + 1)) blank) ++ l)
                (rw p.seen (drop-set-lt len (view s) w cur (omega arith))
                ∙ agree_drop (view s) (view s₀) w j.unread len (omega arith)));
            rest = q.rest ∙ p.rest ∙ j.rest;
            long = q.long ∙ p.long ∙ j.long;
          };
    }

pub empty_run : (s : List ℕ) (len : ℕ) → len ≡ 0 → Coalesced s len 0 s
unfolding coalesce coalesce_from
empty_run s len e = rw e record { few = omega arith; count = refl; into = record { size = refl; seen = refl; rest = refl; long = refl } }
