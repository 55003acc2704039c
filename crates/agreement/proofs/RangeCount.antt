-- "A strip's ranges never outnumber the layers it covers", also between `isolate` and `coalesce`.
use Rattle.std.specs.Prelude.{◌+◌, ◌-◌, ◌≤◌, ◌<◌, ◌≡◌, ◌&&◌, ◌∷◌}
use Rattle.model.specs.Prelude.{ℕ, zero, suc, arith, refl, ◌∙◌, true, false, List, [], leb, ltb, length}
use Rattle.model.specs.Prelude.{leb-true, ltb-true, lt-leb, le-leb, lt-ltb, le-ltb}
use Rattle.model.specs.{declared.{Extent.Extent, Range.Range, UsageFlags.UsageFlags}, Representation.Ends, Sets.{Slot, Set, Tracker}}
use Rattle.model.specs.{RangedStates.Tiles, RangeCalls.ascends, Texture.{Held, single, many}, WellFormed.{scope_fits, tracker_fits}}
use Rattle.model.specs.{ListLaws.all_weak, BoolLaws.{and_left, and_right}, RangeLaws.tiles_count, Base.All}
use Rattle.agreement.specs.{LogBound.{sum_from, one_if}, Layers.{covers, covered, lengths, AddUp}}
use Rattle.agreement.specs.{Fits.{HeldFits, EndsFit, MipFits, SlotFits}, Decides.{scope_to, tracker_to}}

pub ranges_few : (s : List Range) (w : ℕ) → Tiles 0 s w → length s ≤ w
ranges_few s w t = omega (arith, tiles_count s 0 w t)

-- ---- any ascending list, with gaps: as many layers as its lengths add up to, and no fewer than its ranges
module _ (a : ℕ) (r : Range) (s : List Range) (t : ascends a (r ∷ s) ≡ true) where
  low : a ≤ r.start
  low = leb-true a r.start
      (and_left (leb a r.start) (ltb r.start r.end)
      (and_left (leb a r.start && ltb r.start r.end) (ascends r.end s) t))

  filled : r.start < r.end
  filled = ltb-true r.start r.end (and_right (leb a r.start) (ltb r.start r.end)
      (and_left (leb a r.start && ltb r.start r.end) (ascends r.end s) t))

  onward : ascends r.end s ≡ true
  onward = and_right (leb a r.start && ltb r.start r.end) (ascends r.end s) t

few_lengths : (s : List Range) (a : ℕ) → ascends a s ≡ true → length s ≤ lengths s
few_lengths [] a t = omega arith
few_lengths (r ∷ s) a t = let h = filled a r s t in let ih = few_lengths s r.end (onward a r s t) in omega arith

-- nothing below the first range
covers_none : (s : List Range) (a l : ℕ) → ascends a s ≡ true → l < a → covers s l ≡ false
covers_none [] a l t h = refl
covers_none (r ∷ s) a l t h =
    let x = low a r s t in let y = filled a r s t in
    rw (lt-leb r.start l (omega arith), covers_none s r.end l (onward a r s t) (omega arith))

-- sums in parts, and of equal terms
sum_split : (f : ℕ → ℕ) (k m n : ℕ) → sum_from f k (m + n) ≡ sum_from f k m + sum_from f (k + m) n
sum_split f k zero n = let e : 0 + n ≡ n = omega arith in let d : k + 0 ≡ k = omega arith in rw (e, d) (omega arith)
sum_split f k (suc m) n =
    let ih = sum_split f (suc k) m n in let e : suc m + n ≡ suc (m + n) = omega arith in let d : k + suc m ≡ suc k + m = omega arith in
    rw (e, d) (omega arith)

sum_same : (f g : ℕ → ℕ) (k n : ℕ) → ((i : ℕ) → k ≤ i → i < k + n → f i ≡ g i) → sum_from f k n ≡ sum_from g k n
sum_same f g k zero h = refl
sum_same f g k (suc n) h = let x = h k (omega arith) (omega arith) in let ih =
    sum_same f g (suc k) n (λ i a b. h i (omega arith) (omega arith)) in omega arith

sum_zero : (k n : ℕ) → sum_from (λ i. 0) k n ≡ 0
sum_zero k zero = refl
sum_zero k (suc n) = let ih = sum_zero (suc k) n in omega arith

sum_one : (k n : ℕ) → sum_from (λ i. 1) k n ≡ n
sum_one k zero = refl
sum_one k (suc n) = let ih = sum_one (suc k) n in omega arith

counted : (s : List Range) (a n : ℕ) → ascends a s ≡ true → All (λ (r : Range). r.end ≤ a + n) s
    → sum_from (λ l. one_if (covers s l)) a n ≡ lengths s
counted [] a n t w = sum_zero a n
counted (r ∷ s) a n t w =
    let x = low a r s t in let y = filled a r s t in let z = onward a r s t in let v = w.0 in
    let f : ℕ → ℕ = λ l. one_if (covers (r ∷ s) l) in
    let g : ℕ = r.start - a in let h : ℕ = r.end - r.start in let m : ℕ = a + n - r.end in
    let en : n ≡ g + (h + m) = omega arith in let eg : a + g ≡ r.start = omega arith in let eh : r.start + h ≡ r.end = omega arith in
    let gap = sum_same f (λ i. 0) a g (λ i p q.
    rw (covers_none (r ∷ s) r.start i (rw (le-leb r.start r.start (omega arith), lt-ltb r.start r.end y) z)
    (omega arith))) ∙ sum_zero a g in
    let own = sum_same f (λ i. 1) r.start h (λ i p q. rw (le-leb r.start i p, lt-ltb i r.end (omega arith)))
    ∙ sum_one r.start h in
    let rest = sum_same f (λ l. one_if (covers s l)) r.end m (λ i p q. rw (le-leb r.start i (omega arith), le-ltb i r.end p))
    ∙ counted s r.end m z (all_weak (λ (q : Range). q.end ≤ a + n) (λ (q : Range). q.end ≤ r.end + m)
    (λ q e. omega arith) s w.1) in
    let one = sum_split f a g (h + m) in let two = sum_split f r.start h m in
    rw en (one ∙ rw (eg, two, eh, gap, own, rest) (omega arith))

pub covered_lengths : (s : List Range) (w : ℕ) → ascends 0 s ≡ true → All (λ (r : Range). r.end ≤ w) s → covered s w ≡ lengths s
covered_lengths s w t e = counted s 0 w t (all_weak (λ (r : Range). r.end ≤ w) (λ (r : Range). r.end ≤ 0 + w) (λ r h. omega arith) s e)

pub ascending_few : (s : List Range) (w : ℕ) → ascends 0 s ≡ true → All (λ (r : Range). r.end ≤ w) s → length s ≤ covered s w
ascending_few s w t e = let a = few_lengths s 0 t in let b = covered_lengths s w t e in omega arith

-- ---- well-formed sets: the ranges of a mip add up to its layers
tiles_add_up : (s : List Range) (a e : ℕ) → Tiles a s e → a + lengths s ≡ e
tiles_add_up [] a e t = omega arith
tiles_add_up (r ∷ s) a e t = let ih = tiles_add_up s r.end e t.2 in omega arith

held_adds_up : (p : UsageFlags) (sh : Extent) (h : Held) → HeldFits p sh h → AddUp sh h
held_adds_up p sh (single st) f = tt
held_adds_up p sh (many ss) f =
    all_weak (MipFits p sh.layers) (λ (s : List Range). lengths s ≡ sh.layers) (λ s m. let h =
    tiles_add_up s 0 sh.layers m.tiles in omega arith) ss f.1

pub scope_adds_up : (s : Set Held) → scope_fits s ≡ true → All (λ (x : Slot Held). x.owned ≡ true → AddUp x.extent x.held) s.slots
scope_adds_up s e =
    all_weak (SlotFits HeldFits s.numbers s.flags) (λ (x : Slot Held). x.owned ≡ true → AddUp x.extent x.held)
    (λ x f o. held_adds_up s.flags x.extent x.held (f.held o)) s.slots (scope_to s e).slots

pub tracker_adds_up : (t : Tracker Held) → tracker_fits t ≡ true
    → All (λ (x : Slot (Ends Held)). x.owned ≡ true → AddUp x.extent x.held.start
    × AddUp x.extent x.held.end) t.set.slots
tracker_adds_up t e =
    all_weak (SlotFits EndsFit t.set.numbers t.set.flags) (λ (x : Slot (Ends Held)). x.owned ≡ true
    → AddUp x.extent x.held.start × AddUp x.extent x.held.end)
    (λ x f o. let h = f.held o in (
      held_adds_up t.set.flags x.extent x.held.start h.start,
      held_adds_up t.set.flags x.extent x.held.end h.end,
    ))
    t.set.slots (tracker_to t e).slots
