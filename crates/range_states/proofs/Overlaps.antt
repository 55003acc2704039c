-- The loops of `filtered_count` and `iter_filter`: what is told or written, and what is left to look at.
use Rattle.model.specs.Prelude.{ℕ, add-one, arith, refl, sym, ap, ◌∙◌, Bool, true, false, List, [], append_assoc, append-nil, length}
use Rattle.model.specs.Prelude.{get_or, take, drop, take-append-drop, slice_empty, length-take-le, take-suc-set, drop-set-lt}
use Rattle.model.specs.{declared.Range.Range, RangedStates.iter_filter}
use Rattle.std.specs.Int.{from_bool}
use Rattle.std.specs.Prelude.{◌+◌, ◌*◌, ◌≤◌, ◌<◌, ◌≡◌, ◌∷◌, ◌++◌}
use Rattle.range_states.specs.{View.{view, spare, decode, blank, Put, view_long}, Filtering.{overlaps, clip, Counted, Filtered}}
use Rattle.range_states.proofs.{Agree.agree_drop, Inserting.next_is}

filter_yes : (a e : ℕ) (x : Range) (s : List Range) → overlaps a e x ≡ true → iter_filter a e (x ∷ s) ≡ clip a e x ∷ iter_filter a e s
unfolding iter_filter overlaps
filter_yes a e x s q = rw q

filter_no : (a e : ℕ) (x : Range) (s : List Range) → overlaps a e x ≡ false → iter_filter a e (x ∷ s) ≡ iter_filter a e s
unfolding iter_filter overlaps
filter_no a e x s q = rw q

-- what is left at k, with the record at k in front
module _ (l : List ℕ) (len k a e : ℕ) {x : Range} {b : Bool} (room : 3 * len ≤ length l) (t : k < len) (g : x ≡ get_or (view l) k blank)
    (q : b ≡ overlaps a e x) where
  left_yes : b ≡ true → iter_filter a e (drop k (decode len l)) ≡ clip a e x ∷ iter_filter a e (drop (k + 1) (decode len l))
  left_yes y = rw (next_is l len k x room t g) (filter_yes a e x (drop (k + 1) (decode len l)) (sym q ∙ y))

  left_no : b ≡ false → iter_filter a e (drop k (decode len l)) ≡ iter_filter a e (drop (k + 1) (decode len l))
  left_no y = rw (next_is l len k x room t g) (filter_no a e x (drop (k + 1) (decode len l)) (sym q ∙ y))

  -- one more, if the record at k is one
  left_count : {m : ℕ} → m ≡ from_bool b
      → (length (iter_filter a e (drop k (decode len l))) ≡ m + length (iter_filter a e (drop (k + 1) (decode len l)))) × (m ≤ 1)
  left_count {m} h = go b refl
    where
      go : (t : Bool) → b ≡ t
          → (length (iter_filter a e (drop k (decode len l))) ≡ m + length (iter_filter a e (drop (k + 1) (decode len l)))) × (m ≤ 1)
      go true y = let one : m ≡ 1 = rw y at h in (omega (arith, ap length (left_yes y)), omega arith)
      go false y = let none : m ≡ 0 = rw y at h in (omega (arith, ap length (left_no y)), omega arith)

none_left : (l : List ℕ) (len a e : ℕ) → iter_filter a e (drop len (decode len l)) ≡ []
unfolding iter_filter
none_left l len a e = rw (slice_empty len (view l))

-- ---- `filtered_count`
pub record Counting (l : List ℕ) (len a e n k : ℕ) : Type 0 where
  pub few : n ≤ k
  pub is : n + length (iter_filter a e (drop k (decode len l))) ≡ length (iter_filter a e (decode len l))

pub count_step : {l : List ℕ} {len a e n m k : ℕ} {x : Range} {b : Bool} → 3 * len ≤ length l → Counting l len a e n k → k < len
    → x ≡ get_or (view l) k blank → b ≡ overlaps a e x → m ≡ from_bool b → Counting l len a e (n + m) (k + 1)
count_step {l} {len} {a} {e} {n} {m} {k} {x} {b} room j t g q h =
    let s = left_count l len k a e room t g q h in record { few = omega (arith, j.few, s.1); is = omega (arith, j.is, s.0) }

pub count_end : {l : List ℕ} {len a e n k : ℕ} → Counting l len a e n k → k ≡ len → Counted l len a e n
count_end {l} {len} {a} {e} j t =
    let i = rw t at j.is in record { few = omega (arith, j.few); is = omega (arith, i, ap length (none_left l len a e)) }

-- ---- `iter_filter`: m₀ is the second run as it came
pub record Writing (l : List ℕ) (len a e : ℕ) (m₀ m : List ℕ) (w k : ℕ) : Type 0 where
  pub few : w ≤ k
  pub fits : 3 * (w + length (iter_filter a e (drop k (decode len l)))) ≤ length m₀
  pub made : take w (view m) ++ iter_filter a e (drop k (decode len l)) ≡ iter_filter a e (decode len l)
  pub unwritten : drop w (view m) ≡ drop w (view m₀)
  pub rest : spare m ≡ spare m₀
  pub long : length m ≡ length m₀

module _ {l : List ℕ} {len a e : ℕ} {m₀ m : List ℕ} {w k : ℕ} (room : 3 * len ≤ length l) (j : Writing l len a e m₀ m w k) where
  -- there is room for one more
  pub write_fits : {x : Range} {b : Bool} → k < len → x ≡ get_or (view l) k blank → b ≡ overlaps a e x → b ≡ true → 3 * w + 3 ≤ length m
  write_fits t g q y = omega (arith, j.fits, j.long, ap length (left_yes l len k a e room t g q y))

  pub write_yes : {x : Range} {b : Bool} {m' : List ℕ} → k < len → x ≡ get_or (view l) k blank → b ≡ overlaps a e x → b ≡ true
      → Put m w (clip a e x) m' → Writing l len a e m₀ m' (w + 1) (k + 1)
  write_yes {x} {b} {m'} t g q y p =
      let n = left_yes l len k a e room t g q y in
      let v : w + 1 ≤ length (view m) = view_long m (w + 1) (omega (arith, write_fits t g q y)) in
      let u : take (w + 1) (view m') ≡ take w (view m) ++ (clip a e x ∷ []) =
      rw (p.seen, add-one) (take-suc-set (view m) w (clip a e x) (omega arith)) in
      record {
        few = omega (arith, j.few);
        fits = omega (arith, j.fits, ap length n);
        made = rw (u, append_assoc) (rw n at j.made);
        unwritten = rw p.seen (drop-set-lt (w + 1) (view m) w (clip a e x) (omega arith))
            ∙ agree_drop (view m) (view m₀) w j.unwritten (w + 1) (omega arith);
        rest = p.rest ∙ j.rest;
        long = p.long ∙ j.long;
      }

  pub write_no : {x : Range} {b : Bool} → k < len → x ≡ get_or (view l) k blank → b ≡ overlaps a e x → b ≡ false
      → Writing l len a e m₀ m w (k + 1)
  write_no t g q y =
      let n = left_no l len k a e room t g q y in
      record {
        few = omega (arith, j.few);
        fits = rw n at j.fits;
        made = rw n at j.made;
        unwritten = j.unwritten;
        rest = j.rest;
        long = j.long;
      }

  pub write_end : k ≡ len → Filtered l len a e m₀ w m
  write_end t =
      let z = none_left l len a e in
      let made = rw t at j.made in let fits = rw t at j.fits in
      let n : take w (view m) ≡ iter_filter a e (decode len l) = sym (append-nil (take w (view m))) ∙ rw z at made in
      let f : 3 * (w + 0) ≤ length m₀ = rw z at fits in
      let v : length (take w (view m)) ≡ w = length-take-le w (view m) (view_long m w (omega (arith, j.long))) in
      record {
        few = omega (arith, j.few);
        count = sym v ∙ ap length n;
        into = record {
          size = sym (ap length n) ∙ v;
          seen = rw (← n, ← j.unwritten) (sym (take-append-drop w (view m)));
          rest = j.rest;
          long = j.long;
        };
      }
