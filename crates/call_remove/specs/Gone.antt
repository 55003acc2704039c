-- What the sparse call names, and the scope's table once it no longer owns it.
use Rattle.std.specs.Prelude.{◌<◌, ◌≡◌, ◌∷◌, ◌++◌}
use Rattle.model.specs.Prelude.{ℕ, zero, suc, refl, ap, true, List, length, get_or, set, []}
use Rattle.set_storage.specs.Storage.{owned_at, owned_of}

-- index j stands in the list, and the scope with the table g owns it
pub record Listed (is g : List ℕ) (j : ℕ) : Type 0 where
  pub at : ℕ
  pub below : at < length is
  pub here : get_or is at 0 ≡ j
  pub owned : owned_of g j ≡ true

-- the scope's table, with each listed index no longer owned: every other word stays
unfoldable pub disowned : List ℕ → List ℕ → List ℕ
disowned [] g = g
disowned (i ∷ is) g = disowned is (set g (owned_at i) 0)

-- one more at the end of the list
pub disowned_last : (is : List ℕ) (i : ℕ) (g : List ℕ) → disowned (is ++ (i ∷ [])) g ≡ set (disowned is g) (owned_at i) 0
unfolding disowned
disowned_last [] i g = refl
disowned_last (x ∷ is) i g = disowned_last is i (set g (owned_at x) 0)

-- a word that is 0 may be made 0
pub set_zero : (l : List ℕ) (k : ℕ) → get_or l k 0 ≡ 0 → set l k 0 ≡ l
set_zero [] k e = refl
set_zero (x ∷ l) zero e = rw e
set_zero (x ∷ l) (suc k) e = ap (λ (y : List ℕ). x ∷ y) (set_zero l k e)
