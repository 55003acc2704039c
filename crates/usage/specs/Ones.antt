-- The rule of the table, a byte's bits counted to two; and one bit of sixteen by the entries of two bytes.
use Rattle.model.specs.Prelude.{ℕ, min, dec_lt, arith, sym, ◌∙◌, List, eqb, length, get_or, List_get_D_eq_default, bit_and, and_mask}
use Rattle.model.specs.Prelude.{eq-eqb, ne_eqb}
use Rattle.model.specs.{BoolLaws.by_lt, Flags.one_bit}
use Rattle.std.specs.Prelude.{◌+◌, ◌/◌, ◌<◌, ◌≡◌}
use Rattle.std.specs.Int.Count.{ones_in}
use Rattle.usage.specs.CountLaws.{ones_rest, ones_split}

-- "0, 1 or 2 for a byte with no bit, one bit or more"
unfoldable pub to_two : ℕ → ℕ
unfolding ones_in
to_two b = min (ones_in 8 b) 2

-- a table that has it for each of the 256 bytes
pub record CountsOnes (t : List ℕ) : Type 0 where
  pub entries : length t ≡ 256
  pub entry : (b : ℕ) → b < 256 → get_or t b 0 ≡ to_two b

to_two_lt : (b : ℕ) → to_two b < 3
unfolding to_two
to_two_lt b = omega arith

-- what is read of it is small, at any place
pub entry_lt : {t : List ℕ} → CountsOnes t → (b : ℕ) → get_or t b 0 < 3
entry_lt {t} q b = by_lt b 256 (λ h. rw (q.entry b h) (to_two_lt b))
    (λ h. rw (List_get_D_eq_default t 0 {n = b} (rw q.entries h)) (omega arith))

-- counts to two sum to one where the counts do
capped : (x y : ℕ) → eqb (min x 2 + min y 2) 1 ≡ eqb (x + y) 1
capped x y = go (dec_lt (x + y) 1) (dec_lt (x + y) 2)
  where
    go : Dec (x + y < 1) → Dec (x + y < 2) → eqb (min x 2 + min y 2) 1 ≡ eqb (x + y) 1
    go (yes h) d = ne_eqb (min x 2 + min y 2) 1 (λ z. omega arith) ∙ sym (ne_eqb (x + y) 1 (λ z. omega arith))
    go (no h) (yes d) = eq-eqb (min x 2 + min y 2) 1 (omega arith) ∙ sym (eq-eqb (x + y) 1 (omega arith))
    go (no h) (no d) = ne_eqb (min x 2 + min y 2) 1 (λ z. omega arith) ∙ sym (ne_eqb (x + y) 1 (λ z. omega arith))

-- one of sixteen bits is set where the counts of the low and the high byte sum to one
pub two_bytes : (s : ℕ) → eqb (to_two (bit_and s 255) + to_two (bit_and (s / 256) 255)) 1 ≡ one_bit s
unfolding to_two
two_bytes s =
    let h : ones_in 16 s ≡ ones_in 8 s + ones_in 8 (s / 256) = ones_split 8 8 s in
    rw (and_mask s 8, and_mask (s / 256) 8, ones_rest 8 s, ones_rest 8 (s / 256), h) (capped (ones_in 8 s) (ones_in 8 (s / 256)))

-- and the entries are the counts
pub looked_up : (t : List ℕ) (a b : ℕ) → CountsOnes t → a < 256 → b < 256
    → eqb (get_or t a 0 + get_or t b 0) 1 ≡ eqb (to_two a + to_two b) 1
looked_up t a b q h g = rw (q.entry a h, q.entry b g)
