-- The second pass of `coalesce`: what is written, zeros where records were read and not written again, and what is left to read.
use Rattle.model.specs.Prelude.{ℕ, zero, suc, arith, refl, sym, ap, ◌∙◌, Bool, true, false, List, [], append_assoc, length, get_or, set}
use Rattle.model.specs.Prelude.{replicate, length-append, length-replicate, set_at, get_or_at, lt-ltb}
use Rattle.model.specs.{declared.Range.Range, RangedStates.{range, joins, coalesce_from, coalesce}}
use Rattle.std.specs.Prelude.{◌+◌, ◌-◌, ◌<◌, ◌≡◌, ◌∷◌, ◌++◌}
use Rattle.range_states.specs.View.{blank}
use Rattle.range_records.specs.{declared.decisions.Next.Next, Passes.{join_of, Joined, joining}}

-- of m records xs are left, and the others are zeros
abbrev pub joined : ℕ → List Range → List Range → Joined
joined m xs rest = record { len = length xs; records = xs ++ (replicate (m - length xs) blank ++ rest) }

zeros_more : (z : ℕ) (l : List Range) → replicate z blank ++ (blank ∷ l) ≡ blank ∷ (replicate z blank ++ l)
zeros_more zero l = refl
zeros_more (suc z) l = ap (λ (t : List Range). blank ∷ t) (zeros_more z l)

-- ---- one turn: xs and `last` are written, z records are zeros, n is read
abbrev state : List Range → Range → ℕ → List Range → List Range
state xs last z l = xs ++ (last ∷ (replicate z blank ++ l))

module _ (xs : List Range) (last : Range) (z : ℕ) (n : Range) (l : List Range) (i len : ℕ) (q : i ≡ length xs + suc z)
    (p : len ≡ suc (length xs)) where
  long : length (xs ++ (last ∷ replicate z blank)) ≡ i
  long = rw (length-append, length-replicate) (sym q)

  parted : state xs last z (n ∷ l) ≡ (xs ++ (last ∷ replicate z blank)) ++ (n ∷ l)
  parted = rw append_assoc

  read : get_or (state xs last z (n ∷ l)) i blank ≡ n
  read = rw parted (get_or_at (xs ++ (last ∷ replicate z blank)) n l blank i long)

  cleared : set (state xs last z (n ∷ l)) i blank ≡ state xs last (suc z) l
  cleared = rw (parted, set_at (xs ++ (last ∷ replicate z blank)) n l blank i long, append_assoc, zeros_more)

  -- n joins `last`
  taken : (y : Range) → set (state xs last (suc z) l) (len - 1) y ≡ state xs y (suc z) l
  taken y = set_at xs last (replicate (suc z) blank ++ l) y (len - 1) (omega arith)

  -- n is written after it
  added : set (state xs last (suc z) l) len n ≡ state (xs ++ (last ∷ [])) n z l
  added =
      rw (← append_assoc xs (last ∷ []) (blank ∷ (replicate z blank ++ l)))
      (set_at (xs ++ (last ∷ [])) blank (replicate z blank ++ l) n len (omega (arith, length-append xs (last ∷ []))))

turn : (k i len : ℕ) (last : Range) (l : List Range) {n : Range} {l₁ : List Range} {j : Next} → get_or l i blank ≡ n
    → set l i blank ≡ l₁ → join_of last len n ≡ j
    → joining (suc k) i len last l ≡ joining k (i + 1) j.len j.range (set l₁ j.at j.range)
unfolding joining
turn k i len last l p q r = rw (← r, ← q, ← p)

next_yes : (last : Range) (len : ℕ) (n : Range) → 0 < len → joins last n ≡ true
    → join_of last len n ≡ record { range = range last.start n.end last.state; at = len - 1; len = len }
unfolding join_of
next_yes last len n h q = rw (lt-ltb 0 len h, q)

next_no : (last : Range) (len : ℕ) (n : Range) → 0 < len → joins last n ≡ false
    → join_of last len n ≡ record { range = n; at = len; len = len + 1 }
unfolding join_of
next_no last len n h q = rw (lt-ltb 0 len h, q)

-- ---- all turns
join_from : (m : ℕ) (xs : List Range) (last : Range) (z : ℕ) (us rest : List Range) (i len : ℕ) → i ≡ length xs + suc z
    → len ≡ suc (length xs) → m ≡ i + length us
    → joining (length us) i len last (state xs last z (us ++ rest)) ≡ joined m (xs ++ coalesce_from last us) rest
unfolding joining coalesce_from
join_from m xs last z [] rest i len q p f =
    let size : length (xs ++ (last ∷ [])) ≡ len = rw length-append (omega arith) in let left : m - len ≡ z = omega arith in
    rw (size, left, append_assoc)
join_from m xs last z (n ∷ us) rest i len q p f =
    let size : length (xs ++ (last ∷ [])) ≡ suc (length xs) = rw length-append (omega arith) in
    go (joins last n) refl
    (join_from m xs (range last.start n.end last.state) (suc z) us rest (i + 1) len (omega arith) p (omega arith))
    (join_from m (xs ++ (last ∷ [])) n z us rest (i + 1) (len + 1) (omega arith) (omega arith) (omega arith))
  where
    l : List Range
    l = us ++ rest

    both : Range
    both = range last.start n.end last.state

    one : {j : Next} → join_of last len n ≡ j
        → joining (suc (length us)) i len last (state xs last z (n ∷ l))
        ≡ joining (length us) (i + 1) j.len j.range (set (state xs last (suc z) l) j.at j.range)
    one e = turn (length us) i len last (state xs last z (n ∷ l)) (read xs last z n l i len q p) (cleared xs last z n l i len q p) e

    go : (b : Bool) → joins last n ≡ b
        → joining (length us) (i + 1) len both (state xs both (suc z) l) ≡ joined m (xs ++ coalesce_from both us) rest
        → joining (length us) (i + 1) (len + 1) n (state (xs ++ (last ∷ [])) n z l)
        ≡ joined m ((xs ++ (last ∷ [])) ++ coalesce_from n us) rest
        → joining (suc (length us)) i len last (state xs last z (n ∷ l)) ≡ joined m (xs ++ coalesce_from last (n ∷ us)) rest
    go true y ih ih' = one (next_yes last len n (omega arith) y) ∙ rw (y, taken xs last z n l i len q p both) ih
    go false y ih ih' = one (next_no last len n (omega arith) y)
        ∙ rw (y, added xs last z n l i len q p) (rw (append_assoc xs (last ∷ []) (coalesce_from n us)) at ih')

pub join_all : (us rest : List Range) → joining (length us) 0 0 blank (us ++ rest) ≡ joined (length us) (coalesce us) rest
unfolding joining coalesce
join_all [] rest = refl
join_all (r ∷ us) rest = join_from (suc (length us)) [] r 0 us rest 1 1 (omega arith) (omega arith) (omega arith)
