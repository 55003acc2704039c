-- The bits of a union, of what two numbers share, and of a number less some bits.
use Rattle.std.specs.Prelude.{◌+◌, ◌-◌, ◌*◌, ◌/◌, ◌%◌, ◌^◌, ◌<◌, ◌≡◌}
use Rattle.model.specs.Prelude.{ℕ, zero, suc, min, max, dec_lt, arith, refl, sym, ap, ap₂, ◌∙◌}
use Rattle.model.specs.Prelude.{bit_and, bit_or, and_step, or_step, and_zero_l, and_zero_r, or_add_and, and_le_l, and_le_r, or_disjoint}
use Rattle.std.proofs.Math.Arith.{bin_ind}
use Rattle.std.specs.Int.Count.{ones_in}

digits_half : (x y : ℕ) → y < 2 → (x * 2 + y) / 2 ≡ x
digits_half x y h = omega arith

digits_odd : (x y : ℕ) → y < 2 → (x * 2 + y) % 2 ≡ y
digits_odd x y h = omega arith

pub or_half : (a b : ℕ) → bit_or a b / 2 ≡ bit_or (a / 2) (b / 2)
or_half a b = rw (or_step a b) (digits_half _ _ (omega arith))

pub or_odd : (a b : ℕ) → bit_or a b % 2 ≡ max (a % 2) (b % 2)
or_odd a b = rw (or_step a b) (digits_odd _ _ (omega arith))

and_half : (a b : ℕ) → bit_and a b / 2 ≡ bit_and (a / 2) (b / 2)
and_half a b = rw (and_step a b) (digits_half _ _ (omega arith))

and_odd : (a b : ℕ) → bit_and a b % 2 ≡ min (a % 2) (b % 2)
and_odd a b = rw (and_step a b) (digits_odd _ _ (omega arith))

pub and_or : (a b c : ℕ) → bit_and (bit_or a b) c ≡ bit_or (bit_and a c) (bit_and b c)
and_or a b c = bin_ind (λ (a : ℕ). (b c : ℕ) → bit_and (bit_or a b) c ≡ bit_or (bit_and a c) (bit_and b c)) (λ b c. refl)
    (λ n ih b c. and_step (bit_or n b) c ∙ ap₂ (λ (x y : ℕ). x * 2 + y)
    (rw or_half (ih (b / 2) (c / 2)) ∙ ap₂ bit_or (sym (and_half n c)) (sym (and_half b c)))
    (rw (or_odd, and_odd n c, and_odd b c) (omega arith))
    ∙ sym (or_step (bit_and n c) (bit_and b c))) a b c

pub and_absorb : (a b : ℕ) → bit_and a (bit_and a b) ≡ bit_and a b
and_absorb a b = bin_ind (λ (a : ℕ). (b : ℕ) → bit_and a (bit_and a b) ≡ bit_and a b) (λ b. refl)
    (λ n ih b. and_step n (bit_and n b) ∙ ap₂ (λ (x y : ℕ). x * 2 + y)
    (rw and_half (ih (b / 2)))
    (rw and_odd (omega arith))
    ∙ sym (and_step n b)) a b

pub or_zero : (a b : ℕ) → bit_or a b ≡ 0 → (a ≡ 0) × (b ≡ 0)
or_zero a b e = (omega (arith, or_add_and a b, and_le_l a b, and_le_r a b), omega (arith, or_add_and a b, and_le_l a b, and_le_r a b))

pub or_assoc : (a b c : ℕ) → bit_or (bit_or a b) c ≡ bit_or a (bit_or b c)
or_assoc a b c = bin_ind (λ (a : ℕ). (b c : ℕ) → bit_or (bit_or a b) c ≡ bit_or a (bit_or b c)) (λ b c. refl)
    (λ n ih b c. or_step (bit_or n b) c ∙ ap₂ (λ (x y : ℕ). x * 2 + y)
    (rw or_half (ih (b / 2) (c / 2)) ∙ ap (bit_or (n / 2)) (sym (or_half b c)))
    (rw (or_odd n b, or_odd b c) (omega arith))
    ∙ sym (or_step n (bit_or b c))) a b c

-- the bits of s that are not in u, and those that are
pub split_bits : (s u : ℕ) → bit_or (s - bit_and u s) (bit_and u s) ≡ s
split_bits s u =
    let l = and_le_r u s in let d : bit_and (s - bit_and u s) (bit_and u s) ≡ 0 = apart s u in
    or_disjoint (s - bit_and u s) (bit_and u s) d ∙ omega arith
  where
    apart : (s u : ℕ) → bit_and (s - bit_and u s) (bit_and u s) ≡ 0
    apart s u = bin_ind (λ (s : ℕ). (u : ℕ) → bit_and (s - bit_and u s) (bit_and u s) ≡ 0) (λ u. rw (and_zero_r u) refl)
        (λ n ih u. given_single n u (ih (u / 2))) s u
      where
        given_single : (n u : ℕ) → bit_and (n / 2 - bit_and (u / 2) (n / 2)) (bit_and (u / 2) (n / 2)) ≡ 0
            → bit_and (n - bit_and u n) (bit_and u n) ≡ 0
        given_single n u h =
            let s = and_step u n in let l = and_le_r (u / 2) (n / 2) in
            let x : (n - bit_and u n) / 2 ≡ n / 2 - bit_and (u / 2) (n / 2) = omega arith in
            let y : bit_and u n / 2 ≡ bit_and (u / 2) (n / 2) = and_half u n in
            let z : min ((n - bit_and u n) % 2) (bit_and u n % 2) ≡ 0 = omega arith in
            and_step (n - bit_and u n) (bit_and u n) ∙ rw (x, y, h, z)

-- ---- one bit of k
pub zero_ones : (k n : ℕ) → ones_in k n ≡ 0 → n < 2 ^ k → n ≡ 0
unfolding ones_in
zero_ones zero n e h = omega arith
zero_ones (suc k) n e h = let ih = zero_ones k (n / 2) (omega arith) (omega arith) in omega arith

pub ones_zero : (k : ℕ) → ones_in k 0 ≡ 0
unfolding ones_in
ones_zero zero = refl
ones_zero (suc k) = let h = ones_zero k in omega arith

pub bit_nonzero : (k s : ℕ) → ones_in k s ≡ 1 → s ≡ 0 → ⊥
bit_nonzero k s e z = let h = ones_zero k in let g : ones_in k 0 ≡ 1 = rw z at e in omega arith

-- two different bits share none
pub bits_apart : (k a b : ℕ) → ones_in k a ≡ 1 → ones_in k b ≡ 1 → a < 2 ^ k → b < 2 ^ k → (a ≡ b → ⊥) → bit_and a b ≡ 0
unfolding ones_in
bits_apart zero a b e f h g d = absurd (omega arith)
bits_apart (suc k) a b e f h g d = and_step a b ∙ go (λ x y p q r s z. bits_apart k x y p q r s z) (dec_lt (a % 2) 1) (dec_lt (b % 2) 1)
  where
    go : ((a b : ℕ) → ones_in k a ≡ 1 → ones_in k b ≡ 1 → a < 2 ^ k → b < 2 ^ k → (a ≡ b → ⊥) → bit_and a b ≡ 0)
        → Dec (a % 2 < 1) → Dec (b % 2 < 1) → bit_and (a / 2) (b / 2) * 2 + min (a % 2) (b % 2) ≡ 0
    go ih (yes x) (yes y) = let z = ih (a / 2) (b / 2) (omega arith) (omega arith) (omega arith) (omega arith) (λ z. d (omega arith)) in
        omega arith
    go ih (yes x) (no y) = let z = zero_ones k (b / 2) (omega arith) (omega arith) in rw (z, and_zero_r) (omega arith)
    go ih (no x) (yes y) = let z = zero_ones k (a / 2) (omega arith) (omega arith) in rw z (omega (arith, and_zero_l (b / 2)))
    go ih (no x) (no y) = let z = zero_ones k (a / 2) (omega arith) (omega arith) in let w =
        zero_ones k (b / 2) (omega arith) (omega arith) in absurd (d (omega arith))

-- what has a bit, and lies in one bit, is that bit
pub in_one_bit : (k u a b : ℕ) → ones_in k u ≡ 1 → u < 2 ^ k → bit_or a b ≡ u → (a ≡ 0 → ⊥) → a ≡ u
unfolding ones_in
in_one_bit zero u a b e h q d = absurd (omega arith)
in_one_bit (suc k) u a b e h q d = go (λ x y p r s. in_one_bit k (u / 2) x y p r s) (dec_lt (u % 2) 1)
  where
    high : bit_or (a / 2) (b / 2) ≡ u / 2
    high = sym (or_half a b) ∙ ap (λ (x : ℕ). x / 2) q

    low : max (a % 2) (b % 2) ≡ u % 2
    low = sym (or_odd a b) ∙ ap (λ (x : ℕ). x % 2) q

    go : ((a b : ℕ) → ones_in k (u / 2) ≡ 1 → u / 2 < 2 ^ k → bit_or a b ≡ u / 2 → (a ≡ 0 → ⊥) → a ≡ u / 2) → Dec (u % 2 < 1) → a ≡ u
    go ih (yes x) =
        let l = low in
        let r = ih (a / 2) (b / 2) (omega arith) (omega arith) high (λ z. d (omega arith)) in omega arith
    go ih (no x) =
        let z = zero_ones k (u / 2) (omega arith) (omega arith) in
        let o = or_zero (a / 2) (b / 2) (high ∙ z) in omega arith
