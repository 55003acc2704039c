-- Laws of `list_from`: lists made position by position, as the mips of a texture and the slots of a set are.
use Rattle.std.specs.Prelude.{◌+◌, ◌≤◌, ◌<◌, ◌≡◌}
use Rattle.model.specs.Prelude.{ℕ, zero, suc, arith, refl, ap, ◌∙◌, length, get_or, set}
use Rattle.set_storage.specs.Storage.{list_from}

module _ {A : Type 0} (f g : ℕ → A) where
  pub list_ext : (k n : ℕ) → ((x : ℕ) → k ≤ x → x < k + n → g x ≡ f x) → list_from g k n ≡ list_from f k n
  unfolding list_from
  list_ext k zero e = refl
  list_ext k (suc n) e = rw (e k (omega arith) (omega arith), list_ext (suc k) n (λ x a b. e x (omega arith) (omega arith)))

  -- one element differs
  pub list_set : (k n m : ℕ) (v : A) → m < n → g (k + m) ≡ v → ((x : ℕ) → k ≤ x → x < k + n → (x ≡ k + m → ⊥) → g x ≡ f x)
      → list_from g k n ≡ set (list_from f k n) m v
  unfolding list_from
  list_set k zero m v q e o = absurd (omega arith)
  list_set k (suc n) zero v q e o =
      let e' : g k ≡ v = ap g (omega arith) ∙ e in rw (e', list_ext (suc k) n (λ x a b. o x (omega arith) (omega arith) (λ z. omega arith)))
  list_set k (suc n) (suc m) v q e o =
      rw (
        o k (omega arith) (omega arith) (λ z. omega arith),
        list_set (suc k) n m v (omega arith) (ap g (omega arith) ∙ e) (λ x a b c. o x (omega arith) (omega arith) (λ z. c (omega arith))),
      )

module _ {A : Type 0} (f : ℕ → A) where
  pub list_long : (k n : ℕ) → length (list_from f k n) ≡ n
  unfolding list_from
  list_long k zero = refl
  list_long k (suc n) = ap suc (list_long (suc k) n)

  pub list_get : (k n m : ℕ) (z : A) → m < n → get_or (list_from f k n) m z ≡ f (k + m)
  unfolding list_from
  list_get k zero m z q = absurd (omega arith)
  list_get k (suc n) zero z q = ap f (omega arith)
  list_get k (suc n) (suc m) z q = list_get (suc k) n m z (omega arith) ∙ ap f (omega arith)

  pub list_at : (n m : ℕ) (z : A) → m < n → get_or (list_from f 0 n) m z ≡ f m
  list_at n m z q = let e : 0 + m ≡ m = omega arith in list_get 0 n m z q ∙ ap f e
