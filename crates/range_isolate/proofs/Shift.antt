-- A loop that opens a gap in the first n + 1 of a list, from the top down.
--     shifted k n l     the elements from k to n, not including n, stand one place up, and what stood at k stands there still
use Rattle.std.specs.Prelude.{◌+◌, ◌-◌, ◌≤◌, ◌<◌, ◌≡◌, ◌∷◌, ◌++◌}
use Rattle.model.specs.Prelude.{ℕ, zero, suc, not-suc-le-zero, le_of_suc-le-suc, add-one, arith, refl, ap, List}
use Rattle.model.specs.Prelude.{[], length, get_or, take, drop, set}
use Rattle.range_states.specs.Insert.{insert_at}

module _ {A : Type 0} where
  pub shifted : ℕ → ℕ → List A → List A
  shifted k n [] = []
  shifted zero n (x ∷ l) = x ∷ (take n (x ∷ l) ++ drop n l)
  shifted (suc k) zero (x ∷ l) = x ∷ l
  shifted (suc k) (suc n) (x ∷ l) = x ∷ shifted k n l

  pub shifted_none : (n : ℕ) (l : List A) → shifted n n l ≡ l
  unfolding shifted
  shifted_none n [] = refl
  shifted_none zero (x ∷ l) = refl
  shifted_none (suc n) (x ∷ l) = ap (λ (t : List A). x ∷ t) (shifted_none n l)

  shifted_suc : (k n : ℕ) (l : List A) (d : A) → k < n → n < length l
      → set (shifted (suc k) n l) (suc k) (get_or (shifted (suc k) n l) k d) ≡ shifted k n l
  unfolding shifted
  shifted_suc k n [] d h g = absurd (not-suc-le-zero g)
  shifted_suc k zero (x ∷ l) d h g = absurd (not-suc-le-zero h)
  shifted_suc zero (suc n) (x ∷ []) d h g = absurd (not-suc-le-zero (le_of_suc-le-suc g))
  shifted_suc zero (suc n) (x ∷ y ∷ l) d h g = refl
  shifted_suc (suc k) (suc n) (x ∷ l) d h g = ap (λ (t : List A). x ∷ t) (shifted_suc k n l d (le_of_suc-le-suc h) (le_of_suc-le-suc g))

  -- a turn, at the numbers that the code writes
  pub shifted_more : (k n : ℕ) (l : List A) (d : A) → 0 < k → k ≤ n → n < length l
      → set (shifted k n l) k (get_or (shifted k n l) (k - 1) d) ≡ shifted (k - 1) n l
  shifted_more zero n l d p h g = absurd (not-suc-le-zero p)
  shifted_more (suc k) n l d p h g =
      let e : suc k - 1 ≡ k = omega arith in
      rw e (shifted_suc k n l d h g)

  shifted_put_suc : (at n : ℕ) (l : List A) (r : A) → at ≤ n → n < length l
      → set (shifted at n l) at r ≡ insert_at at r (take n l) ++ drop (suc n) l
  unfolding shifted insert_at
  shifted_put_suc at n [] r h g = absurd (not-suc-le-zero g)
  shifted_put_suc zero n (x ∷ l) r h g = refl
  shifted_put_suc (suc at) zero (x ∷ l) r h g = absurd (not-suc-le-zero h)
  shifted_put_suc (suc at) (suc n) (x ∷ l) r h g =
      ap (λ (t : List A). x ∷ t) (shifted_put_suc at n l r (le_of_suc-le-suc h) (le_of_suc-le-suc g))

  pub shifted_put : (at n : ℕ) (l : List A) (r : A) → at ≤ n → n < length l
      → set (shifted at n l) at r ≡ insert_at at r (take n l) ++ drop (n + 1) l
  shifted_put at n l r h g = rw add-one (shifted_put_suc at n l r h g)
