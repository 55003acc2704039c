-- Bytes and numbers of a use tell the same: packing eight numbers into 15 bytes undoes what `uses` lists, and the other way round.
use Rattle.std.specs.Prelude.{◌+◌, ◌/◌, ◌^◌, ◌<◌, ◌≡◌, ◌∷◌, ◌++◌}
use Rattle.model.specs.Prelude.{ℕ, zero, suc, arith, refl, sym, ap, ◌∙◌, List, [], length, take, drop}
use Rattle.model.specs.Prelude.{length-drop, drop_at, take-append-drop, length-take-le, take_at}
use Rattle.plan_file.specs.Bytes.{low_first, Bytes, bytes_in, number_back, number_there, bytes_take, bytes_drop}
use Rattle.plan_file.specs.Uses.{widths, numbers_by, numbers_of}

-- numbers in bytes, each by its width
unfoldable pub bytes_by : List ℕ → List ℕ → List ℕ
bytes_by [] us = []
bytes_by (w ∷ ws) [] = []
bytes_by (w ∷ ws) (u ∷ us) = bytes_in w u ++ bytes_by ws us

abbrev pub bytes_of : List ℕ → List ℕ
bytes_of us = bytes_by widths us

-- as many bytes as the widths take
abbrev pub total : List ℕ → ℕ
total [] = 0
total (w ∷ ws) = w + total ws

numbers_back : (ws p : List ℕ) → length p ≡ total ws → Bytes p → bytes_by ws (numbers_by ws p) ≡ p
unfolding numbers_by bytes_by
numbers_back [] [] e h = refl
numbers_back [] (b ∷ bs) e h = absurd (omega arith)
numbers_back (w ∷ ws) p e h =
    let l : length (take w p) ≡ w = length-take-le w p (omega arith) in
    let a : bytes_in w (low_first (take w p)) ≡ take w p =
    ap (λ (k : ℕ). bytes_in k (low_first (take w p))) (sym l) ∙ number_back (take w p) (bytes_take w p h) in
    let b : bytes_by ws (numbers_by ws (drop w p)) ≡ drop w p =
    numbers_back ws (drop w p) (omega (arith, length-drop w p)) (bytes_drop w p h) in
    rw (a, b) (take-append-drop w p)

-- as many numbers as widths, each of which fits into its own
abbrev pub Fit : List ℕ → List ℕ → Type 0
Fit [] [] = Unit
Fit [] (u ∷ us) = ⊥
Fit (w ∷ ws) [] = ⊥
Fit (w ∷ ws) (u ∷ us) = (u < 256 ^ w) × Fit ws us

number_long : (w n : ℕ) → length (bytes_in w n) ≡ w
number_long zero n = refl
number_long (suc w) n = ap suc (number_long w (n / 256))

numbers_there : (ws us : List ℕ) → Fit ws us → numbers_by ws (bytes_by ws us) ≡ us
unfolding numbers_by bytes_by
numbers_there [] [] h = refl
numbers_there [] (u ∷ us) h = absurd h
numbers_there (w ∷ ws) [] h = absurd h
numbers_there (w ∷ ws) (u ∷ us) h =
    let a = take_at (bytes_in w u) (bytes_by ws us) w (number_long w u) in
    let b = drop_at (bytes_in w u) (bytes_by ws us) w (number_long w u) in
    rw (a, b, number_there w u h.0, numbers_there ws us h.1)

pub bytes_of_numbers : (p : List ℕ) → length p ≡ 15 → Bytes p → bytes_of (numbers_of p) ≡ p
bytes_of_numbers p e h = numbers_back widths p e h

pub numbers_of_bytes : (us : List ℕ) → Fit widths us → numbers_of (bytes_of us) ≡ us
numbers_of_bytes us h = numbers_there widths us h
