-- A borrowed log as a list of entries: THE VIEW of the log, and what writing entries does to it.
use Rattle.model.specs.Prelude.{ℕ, zero, suc, add-one, arith, refl, sym, ap, ◌∙◌, List, [], append_assoc, length, get_or, take, drop, set}
use Rattle.model.specs.Prelude.{length-drop, map-append, take-append-drop, List_get_D_append, take-add, drop_at, drop-drop, get_or-drop}
use Rattle.model.specs.Prelude.{length-take-le, set_split, sets, sets-eq}
use Rattle.model.specs.{declared.PendingTransition.PendingTransition, Representation.{select, mip_start, mip_end, layer_start, layer_end}}
use Rattle.model.specs.{Refusals.tracker_index, Log.pending_of, Texture.Entry}
use Rattle.std.specs.Prelude.{◌+◌, ◌*◌, ◌-◌, ◌/◌, ◌≤◌, ◌<◌, ◌≡◌, ◌∷◌, ◌++◌}
use Rattle.texture_barrier.specs.Over.{over, over_long, over_past}

-- ---- One entry: "seven numbers: index, mip start, mip end, layer start, layer end, old, new"
abbrev pub seven_of : PendingTransition → List ℕ
seven_of e = e.index.0 ∷ mip_start e.selector ∷ mip_end e.selector ∷ layer_start e.selector
    ∷ layer_end e.selector ∷ e.old ∷ e.new ∷ []

-- the entry that the first seven numbers make
abbrev pub entry_of : List ℕ → PendingTransition
entry_of l = record {
  index = tracker_index (get_or l 0 0);
  selector = select (get_or l 1 0) (get_or l 2 0) (get_or l 3 0) (get_or l 4 0);
  old = get_or l 5 0;
  new = get_or l 6 0;
}

abbrev pub blank_entry : PendingTransition
blank_entry = entry_of []

-- ---- Entries as numbers, and the first n entries of a list of numbers
unfoldable pub flatten : List PendingTransition → List ℕ
flatten [] = []
flatten (e ∷ es) = seven_of e ++ flatten es

unfoldable pub read : ℕ → List ℕ → List PendingTransition
read zero l = []
read (suc n) l = entry_of l ∷ read n (drop 7 l)

-- ---- The log: as many entries as the numbers make; up to six numbers after them are unused
unfoldable pub entries_of : List ℕ → List PendingTransition
unfolding read
entries_of l = read (length l / 7) l

unfoldable pub unused : List ℕ → List ℕ
unused l = drop (7 * (length l / 7)) l

-- new entries after the first n, and all else as it was
pub record Added (l : List ℕ) (n : ℕ) (new : List PendingTransition) (l' : List ℕ) : Type 0 where
  pub entries : entries_of l' ≡ over (entries_of l) n new
  pub rest : unused l' ≡ unused l
  pub long : length l' ≡ length l

-- what a store of an entry does
pub record PutEntry (l : List ℕ) (n : ℕ) (e : PendingTransition) (l' : List ℕ) : Type 0 where
  pub content : l' ≡ take (7 * n) l ++ (seven_of e ++ drop (7 * (n + 1)) l)
  pub seen : entries_of l' ≡ set (entries_of l) n e
  pub rest : unused l' ≡ unused l
  pub long : length l' ≡ length l

-- ---- The transitions of texture i, as the log has them
abbrev pub entries_at : ℕ → List Entry → List PendingTransition
entries_at i es = pending_of (record { index = i; what = es })

-- some after others
pub entries_at_append : (i : ℕ) (xs ys : List Entry) → entries_at i (xs ++ ys) ≡ entries_at i xs ++ entries_at i ys
entries_at_append i xs ys = map-append _ xs ys

-- ---- Laws of `flatten`
pub flatten_long : (es : List PendingTransition) → length (flatten es) ≡ 7 * length es
unfolding flatten
flatten_long [] = refl
flatten_long (e ∷ es) = let h = flatten_long es in omega arith

-- ---- Laws of `read`
pub read_long : (n : ℕ) (l : List ℕ) → length (read n l) ≡ n
unfolding read
read_long zero l = refl
read_long (suc n) l = ap suc (read_long n (drop 7 l))

read_at : (n k : ℕ) (l : List ℕ) (z : PendingTransition) → k < n → get_or (read n l) k z ≡ entry_of (drop (7 * k) l)
unfolding read
read_at zero k l z h = absurd (omega arith)
read_at (suc n) zero l z h = refl
read_at (suc n) (suc k) l z h =
    let e : 7 * suc k ≡ 7 + 7 * k = omega arith in
    read_at n k (drop 7 l) z (omega arith) ∙ ap entry_of (drop-drop (7 * k) 7 l) ∙ ap (λ (x : ℕ). entry_of (drop x l)) (sym e)

-- the native sum does not compute, so a count n comes with an equation
read_take : (k n : ℕ) (l : List ℕ) → k ≤ n → take k (read n l) ≡ read k l
unfolding read
read_take zero n l h = refl
read_take (suc k) zero l h = absurd (omega arith)
read_take (suc k) (suc n) l h = ap (λ (x : List PendingTransition). entry_of l ∷ x) (read_take k n (drop 7 l) (omega arith))

read_drop : (k n m : ℕ) (l : List ℕ) → n ≡ k + m → drop k (read n l) ≡ read m (drop (7 * k) l)
unfolding read
read_drop zero n m l h = let e : n ≡ m = omega arith in rw e
read_drop (suc k) zero m l h = absurd (omega arith)
read_drop (suc k) (suc n) m l h =
    let e : 7 * suc k ≡ 7 + 7 * k = omega arith in
    read_drop k n m (drop 7 l) (omega arith) ∙ ap (read m) (drop-drop (7 * k) 7 l) ∙ ap (λ (x : ℕ). read m (drop x l)) (sym e)

-- what follows seven numbers is no part of their entry
front_entry : (p q : List ℕ) → length p ≡ 7 → entry_of (p ++ q) ≡ entry_of p
front_entry p q h =
    rw (
      List_get_D_append p q 0 0 (omega arith),
      List_get_D_append p q 0 1 (omega arith),
      List_get_D_append p q 0 2 (omega arith),
      List_get_D_append p q 0 3 (omega arith),
      List_get_D_append p q 0 4 (omega arith),
      List_get_D_append p q 0 5 (omega arith),
      List_get_D_append p q 0 6 (omega arith),
    )

read_next : (p q : List ℕ) (n : ℕ) → length p ≡ 7 → read (suc n) (p ++ q) ≡ entry_of p ∷ read n q
unfolding read
read_next p q n h = rw (front_entry p q h, drop_at p q 7 h)

read_front : (k n m : ℕ) (l b : List ℕ) → n ≡ k + m → 7 * k ≤ length l → read n (take (7 * k) l ++ b) ≡ read k l ++ read m b
unfolding read
read_front zero n m l b e h = let q : n ≡ m = omega arith in rw q
read_front (suc k) zero m l b e h = absurd (omega arith)
read_front (suc k) (suc n) m l b e h =
    let z : 7 * suc k ≡ 7 + 7 * k = omega arith in let s : length (take 7 l) ≡ 7 = length-take-le 7 l (omega arith) in
    let t : take (7 * suc k) l ++ b ≡ take 7 l ++ (take (7 * k) (drop 7 l) ++ b) =
    rw (z, take-add 7 (7 * k) l) (append_assoc (take 7 l) (take (7 * k) (drop 7 l)) b) in
    let f : entry_of (take 7 l) ≡ entry_of l = sym (front_entry (take 7 l) (drop 7 l) s) ∙ ap entry_of (take-append-drop 7 l) in
    let r = read_front k n m (drop 7 l) b (omega arith) (rw length-drop (omega arith)) in
    ap (read (suc n)) t ∙ read_next (take 7 l) (take (7 * k) (drop 7 l) ++ b) n s ∙ rw (f, r)

read_new : (xs : List PendingTransition) (n m : ℕ) (b : List ℕ) → n ≡ length xs + m → read n (flatten xs ++ b) ≡ xs ++ read m b
unfolding read flatten
read_new [] n m b e = let q : n ≡ m = omega arith in rw q
read_new (x ∷ xs) zero m b e = absurd (omega arith)
read_new (x ∷ xs) (suc n) m b e = ap (λ (y : List PendingTransition). x ∷ y) (read_new xs n m b (omega arith))

-- ---- How many entries there are, and the numbers that they take
pub entries_long : (l : List ℕ) → length (entries_of l) ≡ length l / 7
unfolding entries_of
entries_long l = read_long (length l / 7) l

-- the entries of what follows the first k
pub entries_drop : (l : List ℕ) (k : ℕ) → 7 * k ≤ length l → entries_of (drop (7 * k) l) ≡ drop k (entries_of l)
unfolding entries_of
entries_drop l k h =
    let e : length (drop (7 * k) l) / 7 ≡ length l / 7 - k = rw length-drop (omega arith) in
    rw e (sym (read_drop k (length l / 7) (length l / 7 - k) l (omega arith)))

-- ---- What the numbers tell after new entries were written after the first n
module _ (l : List ℕ) (n : ℕ) (new : List PendingTransition) (room : 7 * (n + length new) ≤ length l) where
  abbrev after : List ℕ
  after = take (7 * n) l ++ (flatten new ++ drop (7 * (n + length new)) l)

  past : ℕ
  past = length l / 7 - (n + length new)

  all_are : length l / 7 ≡ n + (length new + past)
  unfolding past
  all_are = omega arith

  after_is : after ≡ over l (7 * n) (flatten new)
  after_is = let e : 7 * (n + length new) ≡ 7 * n + length (flatten new) = rw (flatten_long new) (omega arith) in rw e

  fits : 7 * n + length (flatten new) ≤ length l
  fits = rw (flatten_long new) (omega arith)

  after_long : length after ≡ length l
  after_long = ap length after_is ∙ over_long l (7 * n) (flatten new) fits

  after_entries : entries_of after ≡ over (entries_of l) n new
  unfolding entries_of
  after_entries =
      let x = read_front n (length l / 7) (length new + past) l (flatten new ++ drop (7 * (n + length new)) l) all_are (omega arith) in
      let y = read_new new (length new + past) past (drop (7 * (n + length new)) l) refl in
      let f = read_take n (length l / 7) l (omega (arith, all_are)) in
      let g = read_drop (n + length new) (length l / 7) past l (omega (arith, all_are)) in
      rw (after_long, f, g, ← y) x

  after_unused : unused after ≡ unused l
  unfolding unused
  after_unused =
      let e : 7 * (length l / 7) ≡ 7 * n + length (flatten new) + 7 * past = rw (flatten_long new) (omega (arith, all_are)) in
      rw (after_long, after_is, e) (over_past l (7 * n) (flatten new) fits (7 * past))

  pub added_is : Added l n new after
  added_is = record { entries = after_entries; rest = after_unused; long = after_long }

-- ---- `put_entry` and `get_entry`
-- seven stores
pub put_entry_is : (l : List ℕ) (n : ℕ) (e : PendingTransition) → 7 * n + 7 ≤ length l → PutEntry l n e (sets l (7 * n) (seven_of e))
unfolding flatten entries_of
put_entry_is l n e h =
    let z : 7 * (n + 1) ≡ 7 * n + 7 = omega arith in
    let c : sets l (7 * n) (seven_of e) ≡ take (7 * n) l ++ (seven_of e ++ drop (7 * (n + 1)) l) =
    rw z (sets-eq (seven_of e) l (7 * n) h ∙ append_assoc (take (7 * n) l) (seven_of e) (drop (7 * n + 7) l)) in
    let a = added_is l n (e ∷ []) (omega arith) in let k : n < length (entries_of l) = rw (entries_long l) (omega arith) in
    record {
      content = c;
      seen = ap entries_of c ∙ a.entries ∙ rw add-one (sym (set_split (entries_of l) n e k));
      rest = ap unused c ∙ a.rest;
      long = ap length c ∙ a.long;
    }

pub get_entry_is : (l : List ℕ) (n : ℕ) → 7 * n + 7 ≤ length l → record {
  index = tracker_index (get_or l (7 * n) 0);
  selector = select (get_or l (7 * n + 1) 0) (get_or l (7 * n + 2) 0) (get_or l (7 * n + 3) 0) (get_or l (7 * n + 4) 0);
  old = get_or l (7 * n + 5) 0;
  new = get_or l (7 * n + 6) 0;
} ≡ get_or (entries_of l) n blank_entry
unfolding entries_of
get_entry_is l n h =
    let z : 7 * n + 0 ≡ 7 * n = omega arith in let k : n < length l / 7 = omega arith in
    let f : (j : ℕ) → get_or (drop (7 * n) l) j 0 ≡ get_or l (7 * n + j) 0 = λ j. get_or-drop (7 * n) l j 0 in
    rw (read_at (length l / 7) n l blank_entry k, f 0, f 1, f 2, f 3, f 4, f 5, f 6, z)
