-- A list written over another from a place on: what the log's numbers and its entries both become.
use Rattle.std.specs.Prelude.{◌+◌, ◌≤◌, ◌≡◌, ◌++◌}
use Rattle.model.specs.Prelude.{ℕ, arith, sym, ap, ◌∙◌, List, append_assoc, length, take, drop, length-append}
use Rattle.model.specs.Prelude.{length-drop, take_at, drop_at, drop-drop, length-take-le}

abbrev pub over : {A : Type 0} → List A → ℕ → List A → List A
over l n x = take n l ++ (x ++ drop (n + length x) l)

module _ {A : Type 0} (l : List A) (n : ℕ) (x : List A) (room : n + length x ≤ length l) where
  pub over_long : length (over l n x) ≡ length l
  over_long = simp (length-append, length-drop, length-take-le n l (omega arith)) (omega arith)

  abbrev front : List A
  front = take n l ++ x

  front_long : length front ≡ n + length x
  front_long = length-append (take n l) x ∙ rw (length-take-le n l (omega arith))

  over_front : over l n x ≡ front ++ drop (n + length x) l
  over_front = sym (append_assoc (take n l) x (drop (n + length x) l))

  -- what lies past x is as it was
  pub over_past : (k : ℕ) → drop (n + length x + k) (over l n x) ≡ drop (n + length x + k) l
  over_past k =
      rw (
        over_front,
        ← drop-drop k (n + length x) (front ++ drop (n + length x) l),
        drop_at front (drop (n + length x) l) (n + length x) front_long,
      )
      (drop-drop k (n + length x) l)

  -- one after another
  pub over_then : (y : List A) → over (over l n x) (n + length x) y ≡ over l n (x ++ y)
  over_then y =
      let t : take (n + length x) (over l n x) ≡ front = ap (take (n + length x)) over_front
      ∙ take_at front (drop (n + length x) l) (n + length x) front_long in
      let e : n + length (x ++ y) ≡ n + length x + length y = rw (length-append x y) (omega arith) in
      rw (t, over_past (length y), e) (simp append_assoc)
