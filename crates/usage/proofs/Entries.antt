-- A table's rule at each of its entries, from one test of all of them that the prover computes.
use Rattle.std.specs.Prelude.{◌+◌, ◌<◌, ◌≡◌, ◌∷◌, ◌&&◌}
use Rattle.model.specs.Prelude.{ℕ, zero, suc, add-zero, zero-add, add-suc, suc-add, le_of_suc-le-suc, not-suc-le-zero, ◌∙◌}
use Rattle.model.specs.Prelude.{subst, sym, Bool, true, List, [], eqb, eqb-true, length, get_or}
use Rattle.model.specs.BoolLaws.{and_left, and_right}
use Rattle.usage.specs.Ones.{to_two, CountsOnes}
use lib.Count.{ones_in}

-- the test f passes at each entry and its place, counted from i
abbrev pub each_entry : (ℕ → ℕ → Bool) → ℕ → List ℕ → Bool
each_entry f i [] = true
each_entry f i (x ∷ xs) = f i x && each_entry f (suc i) xs

-- so it passes at the k-th
from : (f : ℕ → ℕ → Bool) (xs : List ℕ) (i : ℕ) → each_entry f i xs ≡ true → (k : ℕ) → k < length xs → f (i + k) (get_or xs k 0) ≡ true
from f [] i t k h = absurd (not-suc-le-zero h)
from f (x ∷ xs) i t zero h = rw (add-zero i) (and_left (f i x) (each_entry f (suc i) xs) t)
from f (x ∷ xs) i t (suc k) h =
    subst (λ (m : ℕ). f m (get_or xs k 0) ≡ true) (suc-add i k ∙ sym (add-suc i k))
    (from f xs (suc i) (and_right (f i x) (each_entry f (suc i) xs) t) k (le_of_suc-le-suc h))

-- an entry is what the rule says of its byte
unfoldable pub right : ℕ → ℕ → Bool
unfolding to_two ones_in
right b x = eqb x (to_two b)

pub counts_ones : (t : List ℕ) → length t ≡ 256 → each_entry right 0 t ≡ true → CountsOnes t
unfolding right
counts_ones t n e =
    record { entries = n; entry = λ b h. eqb-true (get_or t b 0) (to_two b) (rw (zero-add b) at (from right t 0 e b (rw n h))) }
