-- States that meet EXCLUSIVE, tested together: where their union has at most one bit, each of them has one.
use Rattle.std.specs.Prelude.{◌+◌, ◌≤◌, ◌<◌, ◌≡◌, ◌&&◌, if◌then◌else◌}
use Rattle.model.specs.Prelude.{ℕ, arith, refl, sym, ap, ◌∙◌, Bool, true, false, not, bit_or, or_comm, or_self}
use Rattle.model.specs.Prelude.{eqb-true, eq-eqb}
use Rattle.model.specs.{declared.UsageFlags.UsageFlags, BoolLaws.{by_lt, by_eq}, Flags.{one_bit, meets, incompatible}}
use Rattle.usage.specs.{BitLaws.{or_assoc, zero_ones, ones_zero}, CountLaws.ones_within}
use Rattle.std.specs.Int.Count.{ones_in}

-- what a state adds to the union: itself if it meets EXCLUSIVE, otherwise no bit
abbrev pub exclusive_part : UsageFlags → ℕ → ℕ
exclusive_part p s = if meets s p.exclusive then s else 0

-- u has every bit of those of the first n states that meet EXCLUSIVE
pub record Gathered (p : UsageFlags) (f : ℕ → ℕ) (n u : ℕ) : Type 0 where
  pub within : (k : ℕ) → k < n → meets (f k) p.exclusive ≡ true → bit_or (f k) u ≡ u

module _ {p : UsageFlags} {f : ℕ → ℕ} where
  pub gathered_none : Gathered p f 0 0
  gathered_none = record { within = λ k h. absurd (omega arith) }

  -- more bits do no harm
  pub gathered_wider : {n u : ℕ} (x : ℕ) → Gathered p f n u → Gathered p f n (bit_or u x)
  gathered_wider {n} {u} x g = record { within = λ k h m. sym (or_assoc (f k) u x) ∙ ap (λ (y : ℕ). bit_or y x) (g.within k h m) }

  -- one state more, and its part
  pub gathered_more : {n u r : ℕ} → r ≡ exclusive_part p (f n) → Gathered p f n u → Gathered p f (n + 1) (bit_or u r)
  gathered_more {n} {u} {r} e g = record {
    within = λ k h m. by_lt k n (λ l. (gathered_wider r g).within k l m)
        (λ l. let z : k ≡ n = omega arith in last (f k) (e ∙ ap (λ (i : ℕ). exclusive_part p (f i)) (sym z)) m);
  }
    where
      last : (s : ℕ) → r ≡ exclusive_part p s → meets s p.exclusive ≡ true → bit_or s (bit_or u r) ≡ bit_or u r
      last s q m = let z : r ≡ s = rw m at q in
          rw z (ap (bit_or s) (or_comm u s) ∙ sym (or_assoc s s u) ∙ ap (λ (y : ℕ). bit_or y u) (or_self s) ∙ or_comm s u)

-- no bit of sixteen, or one
pub none_few : (u : ℕ) → u ≡ 0 → ones_in 16 u ≤ 1
none_few u e = rw e (omega (arith, ones_zero 16))

pub one_few : (u : ℕ) → one_bit u ≡ true → ones_in 16 u ≤ 1
one_few u e = omega (arith, eqb-true (ones_in 16 u) 1 e)

exactly : {a b : ℕ} → a ≤ b → b ≤ 1 → (a ≡ 0 → ⊥) → a ≡ 1
exactly {a} {b} x y n = by_eq a 0 (λ e. absurd (n e)) (λ d. omega arith)

-- a state of sixteen bits, not zero, within a union of at most one bit where it meets EXCLUSIVE, is compatible
pub few_compatible : (p : UsageFlags) (s u : ℕ) → (s ≡ 0 → ⊥) → s < 65536 → (meets s p.exclusive ≡ true → bit_or s u ≡ u)
    → ones_in 16 u ≤ 1 → incompatible p s ≡ false
unfolding incompatible
few_compatible p s u z h w f = go (meets s p.exclusive) refl
  where
    one : meets s p.exclusive ≡ true → ones_in 16 s ≡ 1
    one m = exactly (rw (w m) at (ones_within 16 s u)) f (λ e. z (zero_ones 16 s e h))

    go : (t : Bool) → meets s p.exclusive ≡ t → meets s p.exclusive && not (one_bit s) ≡ false
    go true m = rw (m, eq-eqb (ones_in 16 s) 1 (one m))
    go false m = rw m
