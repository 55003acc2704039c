-- Lists: what holds of each element, element by element and of the lists that are made from one.
use Rattle.std.specs.Prelude.{◌+◌, ◌<◌, ◌≤◌, ◌≡◌, ◌∷◌, ◌++◌}
use Rattle.model.specs.Prelude.{ℕ, zero, suc, arith, refl, sym, ap, Bool, true, Option, None, Some, option_map}
use Rattle.model.specs.Prelude.{List, [], map, append_assoc, length, replicate, get_or, set, slice_get}
use Rattle.model.specs.{Base.{All, AllO, each, each_at, zip₂, every}, BoolLaws.{both, and_left, and_right}}

pub all_weak : {A : Type 0} (P N : A → Type 0) → ((x : A) → P x → N x) → (s : List A) → All P s → All N s
all_weak P N w [] t = tt
all_weak P N w (x ∷ s) t = (w x t.0, all_weak P N w s t.1)

pub all_left : {A : Type 0} (P : A → Type 0) (x y : List A) → All P (x ++ y) → All P x
all_left P [] y t = tt
all_left P (a ∷ x) y t = (t.0, all_left P x y t.1)

pub all_right : {A : Type 0} (P : A → Type 0) (x y : List A) → All P (x ++ y) → All P y
all_right P [] y t = t
all_right P (a ∷ x) y t = all_right P x y t.1

pub all_join : {A : Type 0} (P : A → Type 0) (x y : List A) → All P x → All P y → All P (x ++ y)
all_join P [] y t u = u
all_join P (a ∷ x) y t u = (t.0, all_join P x y t.1 u)

pub all_get_d : {A : Type 0} (P : A → Type 0) (l : List A) (i : ℕ) (d : A) → P d → All P l → P (get_or l i d)
all_get_d P [] i d p t = p
all_get_d P (x ∷ l) zero d p t = t.0
all_get_d P (x ∷ l) (suc i) d p t = all_get_d P l i d p t.1

pub all_at : {A : Type 0} (P : A → Type 0) (s : List A) (k : ℕ) (z : A) → All P s → k < length s → P (get_or s k z)
all_at P [] k z a h = absurd (omega arith)
all_at P (x ∷ s) zero z a h = a.0
all_at P (x ∷ s) (suc k) z a h = all_at P s k z a.1 (omega arith)

pub all_set : {A : Type 0} (P : A → Type 0) (l : List A) (i : ℕ) (x : A) → P x → All P l → All P (set l i x)
all_set P [] i x p t = t
all_set P (y ∷ l) zero x p t = (p, t.1)
all_set P (y ∷ l) (suc i) x p t = (t.0, all_set P l i x p t.1)

pub all_both : {A : Type 0} (P Q : A → Type 0) (s : List A) → All P s → All Q s → All (λ (a : A). P a × Q a) s
all_both P Q [] x y = tt
all_both P Q (a ∷ s) x y = ((x.0, y.0), all_both P Q s x.1 y.1)

pub all_map : {A B : Type 0} (P : A → Type 0) (Q : B → Type 0) (f : A → B) → ((a : A) → P a → Q (f a))
    → (s : List A) → All P s → All Q (map f s)
all_map P Q f h [] t = tt
all_map P Q f h (x ∷ s) t = (h x t.0, all_map P Q f h s t.1)

pub all_each : {A B : Type 0} (P : A → Type 0) (Q : B → Type 0) (f : A → List B) → ((a : A) → P a → All Q (f a))
    → (s : List A) → All P s → All Q (each f s)
all_each P Q f h [] t = tt
all_each P Q f h (x ∷ s) t = all_join Q (f x) _ (h x t.0) (all_each P Q f h s t.1)

-- the elements have positions below n
pub all_each_at : {A B : Type 0} (P : A → Type 0) (Q : B → Type 0) (n : ℕ) (f : ℕ → A → List B)
    → ((k : ℕ) (a : A) → k < n → P a → All Q (f k a))
    → (k : ℕ) (s : List A) → k + length s ≤ n → All P s → All Q (each_at f k s)
all_each_at P Q n f h k [] e t = tt
all_each_at P Q n f h k (x ∷ s) e t = all_join Q (f k x) _ (h k x (omega arith) t.0) (all_each_at P Q n f h (suc k) s (omega arith) t.1)

pub all_replicate : {A : Type 0} (P : A → Type 0) (x : A) (n : ℕ) → P x → All P (replicate n x)
all_replicate P x zero h = tt
all_replicate P x (suc n) h = (h, all_replicate P x n h)

pub first_of_lem : {A : Type 0} (P : A → Type 0) (x : A) (n : ℕ) → 0 < n → All P (replicate n x) → P x
first_of_lem P x zero h t = absurd (omega arith)
first_of_lem P x (suc n) h t = t.0

pub all_elem : {A : Type 0} (P : A → Type 0) (l : List A) (n : ℕ) → All P l → AllO P (slice_get l n)
all_elem P [] n t = tt
all_elem P (x ∷ l) zero t = t.0
all_elem P (x ∷ l) (suc n) t = all_elem P l n t.1

-- the element at a position, or none
pub elem_of : {A : Type 0} (P : A → Type 0) (l : List A) (n : ℕ) (R : Option A → Type 0) → All P l → R None
    → ((x : A) → P x → R (Some x)) → R (slice_get l n)
elem_of P [] n R t a b = a
elem_of P (x ∷ l) zero R t a b = b x t.0
elem_of P (x ∷ l) (suc n) R t a b = elem_of P l n R t.1 a b

-- ---- tests of each
pub every_all : {A : Type 0} (P : A → Type 0) (f : A → Bool) → ((x : A) → f x ≡ true → P x) → (s : List A) → every f s ≡ true → All P s
every_all P f to [] e = tt
every_all P f to (x ∷ s) e = (to x (and_left (f x) (every f s) e), every_all P f to s (and_right (f x) (every f s) e))

pub all_every : {A : Type 0} (P : A → Type 0) (f : A → Bool) → ((x : A) → P x → f x ≡ true) → (s : List A) → All P s → every f s ≡ true
all_every P f from [] t = refl
all_every P f from (x ∷ s) t = both (from x t.0) (all_every P f from s t.1)

-- ---- `map`, `set` and `zip₂`
pub elem_map : {A B : Type 0} (f : A → B) (l : List A) (n : ℕ) → slice_get (map f l) n ≡ option_map f (slice_get l n)
elem_map f [] n = refl
elem_map f (x ∷ l) zero = refl
elem_map f (x ∷ l) (suc n) = elem_map f l n

pub set_map : {A B : Type 0} (f : A → B) (l : List A) (n : ℕ) (x : A) → map f (set l n x) ≡ set (map f l) n (f x)
set_map f [] n x = refl
set_map f (y ∷ l) zero x = refl
set_map f (y ∷ l) (suc n) x = rw (set_map f l n x)

pub map_replicate : {A B : Type 0} (f : A → B) (n : ℕ) (x : A) → map f (replicate n x) ≡ replicate n (f x)
map_replicate f zero x = refl
map_replicate f (suc n) x = rw (map_replicate f n x)

pub unlike_lists : {A : Type 0} (x : A) (s : List A) → [] ≡ x ∷ s → ⊥
unlike_lists x s e = let h : ◌≡◌ {A = ℕ} 0 1 = cc in omega arith

pub zip_append : {A B D : Type 0} (f : A → B → D) (x y : List A) (n m : List B) → length x ≡ length n
    → zip₂ f (x ++ y) (n ++ m) ≡ zip₂ f x n ++ zip₂ f y m
zip_append f [] y [] m h = refl
zip_append f [] y (b ∷ n) m h = absurd (omega arith)
zip_append f (a ∷ x) y [] m h = absurd (omega arith)
zip_append f (a ∷ x) y (b ∷ n) m h = rw (zip_append f x y n m (omega arith))

-- ---- `each`: what each element makes
module _ {A B : Type 0} (f : A → List B) where
  pub each_append : (x y : List A) → each f (x ++ y) ≡ each f x ++ each f y
  each_append [] y = refl
  each_append (a ∷ x) y = rw (each_append x y) (sym (append_assoc (f a) (each f x) (each f y)))

  pub each_map : {D : Type 0} (g : D → A) (s : List D) → each f (map g s) ≡ each (λ (d : D). f (g d)) s
  each_map g [] = refl
  each_map g (d ∷ s) = ap (λ (y : List B). f (g d) ++ y) (each_map g s)

  pub each_at_lem : {D : Type 0} (g : ℕ → D → List A) (k : ℕ) (s : List D) → each f (each_at g k s) ≡ each_at (λ k d. each f (g k d)) k s
  each_at_lem g k [] = refl
  each_at_lem g k (d ∷ s) = rw (each_append (g k d) (each_at g (suc k) s), each_at_lem g (suc k) s)

pub each_ext : {A B : Type 0} (f g : A → List B) → ((a : A) → f a ≡ g a) → (s : List A) → each f s ≡ each g s
each_ext f g e [] = refl
each_ext f g e (a ∷ s) = rw (e a, each_ext f g e s)

pub at_ext : {A B : Type 0} (F F' : ℕ → A → List B) → ((k : ℕ) (a : A) → F k a ≡ F' k a) → (k : ℕ) (s : List A)
    → each_at F k s ≡ each_at F' k s
at_ext F F' e k [] = refl
at_ext F F' e k (a ∷ s) = rw (e k a, at_ext F F' e (suc k) s)
