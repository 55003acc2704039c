-- Bytes: each element of a list is below 256, as those of a file and of items are by their type; and numbers as bytes.
use Rattle.std.specs.Prelude.{◌+◌, ◌*◌, ◌/◌, ◌%◌, ◌^◌, ◌<◌, ◌≡◌, ◌∷◌}
use Rattle.model.specs.Prelude.{ℕ, zero, suc, arith, refl, ap, List, [], length, take, drop}
use Rattle.model.specs.Base.{All}

-- "all numbers go low byte first": the number of some bytes
abbrev pub low_first : List ℕ → ℕ
low_first [] = 0
low_first (b ∷ bs) = b + 256 * low_first bs

-- and a number in w bytes
abbrev pub bytes_in : ℕ → ℕ → List ℕ
bytes_in zero n = []
bytes_in (suc w) n = n % 256 ∷ bytes_in w (n / 256)

-- each is a byte
abbrev pub Bytes : List ℕ → Type 0
Bytes s = All (λ (x : ℕ). x < 256) s

pub bytes_take : (n : ℕ) (s : List ℕ) → Bytes s → Bytes (take n s)
bytes_take zero s b = tt
bytes_take (suc n) [] b = tt
bytes_take (suc n) (x ∷ s) b = (b.0, bytes_take n s b.1)

pub bytes_drop : (n : ℕ) (s : List ℕ) → Bytes s → Bytes (drop n s)
bytes_drop zero s b = b
bytes_drop (suc n) [] b = tt
bytes_drop (suc n) (x ∷ s) b = bytes_drop n s b.1

-- each undoes the other
pub number_back : (p : List ℕ) → Bytes p → bytes_in (length p) (low_first p) ≡ p
number_back [] h = refl
number_back (b ∷ bs) h =
    let k = h.0 in
    let low : (b + 256 * low_first bs) % 256 ≡ b = omega arith in
    let high : (b + 256 * low_first bs) / 256 ≡ low_first bs = omega arith in
    rw (low, high) (ap (λ (s : List ℕ). b ∷ s) (number_back bs h.1))

pub number_there : (w n : ℕ) → n < 256 ^ w → low_first (bytes_in w n) ≡ n
number_there zero n h = omega arith
number_there (suc w) n h = let k = number_there w (n / 256) (omega arith) in omega arith
