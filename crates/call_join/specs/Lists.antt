-- Two lists side by side, made position by position: what the model's walks over them give.
use Rattle.std.specs.Prelude.{◌+◌, ◌≤◌, ◌<◌, ◌≡◌, ◌∷◌}
use Rattle.model.specs.Prelude.{ℕ, zero, suc, arith, refl, sym, ◌∙◌, List, []}
use Rattle.model.specs.{Base.{each, each_at₂, over₂}, ListLaws.each_append}
use Rattle.set_storage.specs.Storage.{list_from}
use Rattle.log_head.specs.UpTo.{up_to, up_from, up_split}

-- ---- Where the second list is of another kind
-- `over₂`
pub over_same : {A B D : Type 0} (f : ℕ → A → B → A) (g : ℕ → A → D → A) (F : ℕ → B) (G : ℕ → D)
    → ((x : ℕ) (y : A) → f x y (F x) ≡ g x y (G x)) → (s : List A) (k n : ℕ) → over₂ f k s (list_from F k n) ≡ over₂ g k s (list_from G k n)
unfolding list_from
over_same f g F G e [] k n = refl
over_same f g F G e (y ∷ s) k zero = refl
over_same f g F G e (y ∷ s) k (suc n) = rw (e k y, over_same f g F G e s (suc k) n)

-- `each_at₂`
pub each_same : {A B D E : Type 0} (f : ℕ → A → B → List E) (g : ℕ → A → D → List E) (F : ℕ → B) (G : ℕ → D)
    → ((x : ℕ) (y : A) → f x y (F x) ≡ g x y (G x)) → (s : List A) (k n : ℕ)
    → each_at₂ f k s (list_from F k n) ≡ each_at₂ g k s (list_from G k n)
unfolding list_from
each_same f g F G e [] k n = refl
each_same f g F G e (y ∷ s) k zero = refl
each_same f g F G e (y ∷ s) k (suc n) = rw (e k y, each_same f g F G e s (suc k) n)

-- ---- What each pair makes
-- nothing where h makes nothing
module _ {A : Type 0} (h : ℕ → List A) where
  all_none : (k n : ℕ) → ((x : ℕ) → k ≤ x → x < k + n → h x ≡ []) → up_from h k n ≡ []
  unfolding up_from
  all_none k zero e = refl
  all_none k (suc n) e = rw (e k (omega arith) (omega arith), all_none (suc k) n (λ x a b. e x (omega arith) (omega arith)))

module _ {A B D E : Type 0} (r : D → List E) (f : ℕ → A → B → List D) (F : ℕ → A) (G : ℕ → B) (h : ℕ → List E) where
  each_from : (k n m : ℕ) → ((x : ℕ) → k ≤ x → x < k + n → x < k + m → each r (f x (F x) (G x)) ≡ h x)
      → ((x : ℕ) → k + n ≤ x → x < k + m → h x ≡ [])
      → each r (each_at₂ f k (list_from F k n) (list_from G k m)) ≡ up_from h k m
  unfolding list_from up_from
  each_from k zero m a b = sym (all_none h k m (λ x p q. b x (omega arith) (omega arith)))
  each_from k (suc n) zero a b = refl
  each_from k (suc n) (suc m) a b =
      each_append r (f k (F k) (G k)) (each_at₂ f (suc k) (list_from F (suc k) n) (list_from G (suc k) m))
      ∙ rw (
        a k (omega arith) (omega arith) (omega arith),
        each_from (suc k) n m (λ x p q w. a x (omega arith) (omega arith) (omega arith))
            (λ x p q. b x (omega arith) (omega arith)),
      )

  -- where the first list ends, h makes nothing
  pub each_list : (n m : ℕ) → ((x : ℕ) → x < n → x < m → each r (f x (F x) (G x)) ≡ h x) → ((x : ℕ) → n ≤ x → x < m → h x ≡ [])
      → each r (each_at₂ f 0 (list_from F 0 n) (list_from G 0 m)) ≡ up_to h m
  unfolding up_to
  each_list n m a b = each_from 0 n m (λ x p q w. a x (omega arith) (omega arith)) (λ x p q. b x (omega arith) (omega arith))
      ∙ up_split h 0 m m (omega arith)
