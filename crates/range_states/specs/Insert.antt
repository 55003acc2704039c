-- An insertion into a list: `SmallVec::insert`.
use Rattle.std.specs.Prelude.{◌≤◌, ◌≡◌, ◌∷◌, ◌++◌}
use Rattle.model.specs.Prelude.{ℕ, zero, suc, not-suc-le-zero, le_of_suc-le-suc, refl, ap, List, [], length, take}
use Rattle.model.specs.Prelude.{drop}

unfoldable pub insert_at : {A : Type 0} → ℕ → A → List A → List A
insert_at zero r l = r ∷ l
insert_at (suc n) r [] = r ∷ []
insert_at (suc n) r (x ∷ l) = x ∷ insert_at n r l

pub length_insert_at : {A : Type 0} (n : ℕ) (r : A) (l : List A) → length (insert_at n r l) ≡ suc (length l)
unfolding insert_at
length_insert_at zero r l = refl
length_insert_at (suc n) r [] = refl
length_insert_at (suc n) r (x ∷ l) = ap suc (length_insert_at n r l)

pub insert_at_is : {A : Type 0} (n : ℕ) (r : A) (l : List A) → n ≤ length l → insert_at n r l ≡ take n l ++ (r ∷ drop n l)
unfolding insert_at
insert_at_is zero r l h = refl
insert_at_is (suc n) r [] h = absurd (not-suc-le-zero h)
insert_at_is {A} (suc n) r (x ∷ l) h = ap (λ (t : List A). x ∷ t) (insert_at_is n r l (le_of_suc-le-suc h))

insert_at_seam : {A : Type 0} (p q : List A) (r : A) → insert_at (length p) r (p ++ q) ≡ p ++ (r ∷ q)
unfolding insert_at
insert_at_seam [] q r = refl
insert_at_seam {A} (x ∷ p) q r = ap (λ (t : List A). x ∷ t) (insert_at_seam p q r)

pub insert_at_at : {A : Type 0} (p q : List A) (n : ℕ) (r : A) → length p ≡ n → insert_at n r (p ++ q) ≡ p ++ (r ∷ q)
insert_at_at p q n r e = rw (← e) (insert_at_seam p q r)
