-- Counts of the low bits of a number, over every width.
use Rattle.std.specs.Prelude.{◌+◌, ◌/◌, ◌%◌, ◌^◌, ◌≤◌, ◌≡◌}
use Rattle.model.specs.Prelude.{ℕ, zero, suc, zero-add, add-suc, add-zero, add-one, arith, refl, sym, ◌∙◌}
use Rattle.model.specs.Prelude.{bit_or}
use Rattle.usage.specs.BitLaws.{or_half, or_odd}
use Rattle.std.specs.Int.Count.{ones, ones_in, ones_step}
use Rattle.std.proofs.Math.Pow.{field, mod-mod-pow}
use Rattle.std.proofs.Common.{shr-shr}

-- the ones among the low k bits are those of the number's remainder
ones_low : (k n : ℕ) → ones (n % 2 ^ k) ≡ ones_in k n
unfolding ones_in ones
ones_low zero n = let z : n % 1 ≡ 0 = omega arith in rw z
ones_low (suc k) n =
    let h : n % 2 ^ suc k / 2 ≡ n / 2 % 2 ^ k = rw add-one at (field n k 1) in
    let l : n % 2 ^ suc k % 2 ≡ n % 2 = rw add-one at (mod-mod-pow n k 1) in
    ones_step (n % 2 ^ suc k) ∙ rw (h, l, ones_low k (n / 2))

-- so a remainder has as many
pub ones_rest : (k n : ℕ) → ones_in k (n % 2 ^ k) ≡ ones_in k n
ones_rest k n =
    let z : n % 2 ^ k % 2 ^ k ≡ n % 2 ^ k = rw (zero-add k) at (mod-mod-pow n 0 k) in
    sym (ones_low k (n % 2 ^ k)) ∙ rw z (ones_low k n)

-- the ones of the low j + k bits are those of the low k and of the j above them
pub ones_split : (k j n : ℕ) → ones_in (j + k) n ≡ ones_in k n + ones_in j (n / 2 ^ k)
unfolding ones_in
ones_split zero j n = let z : n / 1 ≡ n = omega arith in rw (z, add-zero j) (sym (zero-add (ones_in j n)))
ones_split (suc k) j n =
    let e : 1 + k ≡ suc k = omega arith in
    let s : n / 2 / 2 ^ k ≡ n / 2 ^ suc k = rw e at (shr-shr n 1 k) in
    let g : ones_in (j + k) (n / 2) ≡ ones_in k (n / 2) + ones_in j (n / 2 ^ suc k) = rw s at (ones_split k j (n / 2)) in
    let f : ones_in (j + suc k) n ≡ n % 2 + ones_in (j + k) (n / 2) = rw (add-suc j k) refl in
    let l : ones_in (suc k) n ≡ n % 2 + ones_in k (n / 2) = refl in
    omega arith

-- a number has no more ones than its union with another
pub ones_within : (k a b : ℕ) → ones_in k a ≤ ones_in k (bit_or a b)
unfolding ones_in
ones_within zero a b = omega arith
ones_within (suc k) a b = rw (or_half a b, or_odd a b) (let h = ones_within k (a / 2) (b / 2) in omega arith)
