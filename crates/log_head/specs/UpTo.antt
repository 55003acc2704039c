-- What a loop over the textures of a call adds to the log: the entries of one index, or of one position of a list, after those before it.
use Rattle.std.specs.Prelude.{◌+◌, ◌-◌, ◌<◌, ◌≡◌, ◌++◌}
use Rattle.model.specs.Prelude.{ℕ, zero, suc, add-one, arith, sym, ◌∙◌, List, [], append_assoc, append-nil}
use Rattle.model.specs.declared.{PendingTransition.PendingTransition}
use Rattle.texture_barrier.specs.Taking.{NextLeft, NoneLeft}

-- what f makes at 0, 1 and so on, n of them
unfoldable pub up_to : {A : Type 0} → (ℕ → List A) → ℕ → List A
up_to f zero = []
up_to f (suc n) = up_to f n ++ f n

-- what f makes at k and after it, m of them
unfoldable pub up_from : {A : Type 0} → (ℕ → List A) → ℕ → ℕ → List A
up_from f k zero = []
up_from f k (suc m) = f k ++ up_from f (suc k) m

-- before k and from k on
pub up_split : {A : Type 0} (f : ℕ → List A) (k m n : ℕ) → n ≡ k + m → up_to f k ++ up_from f k m ≡ up_to f n
unfolding up_to up_from
up_split f k zero n e = let z : n ≡ k = omega arith in rw z (append-nil (up_to f k))
up_split f k (suc m) n e = sym (append_assoc (up_to f k) (f k) (up_from f (suc k) m)) ∙ up_split f (suc k) m n (omega arith)

-- ---- What a loop up to n has left
module _ (f : ℕ → List PendingTransition) (n : ℕ) where
  -- what f makes at k and after it, up to n
  unfoldable pub up_left : ℕ → List PendingTransition
  unfolding up_from
  up_left k = up_from f k (n - k)

  -- all at its start
  pub up_all : up_left 0 ≡ up_to f n
  unfolding up_to up_left
  up_all = up_split f 0 (n - 0) n (omega arith)

  -- those at k, and those after it
  pub up_next : {k : ℕ} → k < n → NextLeft up_left k (f k)
  unfolding up_left
  up_next {k} h = let e : n - k ≡ suc (n - suc k) = omega arith in record { is = rw (add-one, e) }

  -- none after the last
  pub up_done : NoneLeft up_left n
  unfolding up_left
  up_done = let z : n - n ≡ 0 = omega arith in record { is = rw z }
