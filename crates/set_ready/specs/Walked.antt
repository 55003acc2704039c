-- A walk over slots that changes them one by one: which are done, which are left as they were, and that the model's walks give the same.
use Rattle.model.specs.Prelude.{ℕ, zero, suc, ℕ_discrete, arith, refl, sym, ap, subst, ◌∙◌, List, []}
use Rattle.model.specs.Base.{Stop, fine, stopped, over₂, walk₂}
use Rattle.std.specs.Prelude.{◌+◌, ◌≤◌, ◌<◌, ◌≡◌, ◌∷◌}
use Rattle.set_storage.specs.{Storage.list_from, Lists.list_ext}

-- of the first n slots each that is left reads as before, and of each other R tells what it became
pub record Walked {A : Type 0} (n : ℕ) (R : ℕ → A → A → Type 0) (before : ℕ → A) (left : ℕ → Type 0) (now : ℕ → A) : Type 0 where
  pub done : (j : ℕ) → j < n → (left j → ⊥) → R j (before j) (now j)
  pub same : (j : ℕ) → j < n → left j → now j ≡ before j

module _ {A : Type 0} {n : ℕ} {R : ℕ → A → A → Type 0} {before : ℕ → A} where
  -- nothing changed yet
  pub walked_start : {left : ℕ → Type 0} → ((j : ℕ) → (left j → ⊥) → R j (before j) (before j)) → Walked n R before left before
  walked_start d = record { done = λ j h. d j; same = λ j h l. refl }

  -- slot k is done, and no other changed
  module _ {left next : ℕ → Type 0} {now after : ℕ → A} {k : ℕ} (q : Walked n R before left now)
      (others : (j : ℕ) → j < n → (j ≡ k → ⊥) → after j ≡ now j) where
    pub walked_turn : (k < n → R k (before k) (after k)) → ((j : ℕ) → (j ≡ k → ⊥) → left j → next j)
        → ((j : ℕ) → next j → (j ≡ k → ⊥) × left j) → Walked n R before next after
    walked_turn r up down = record {
      done = λ j h out. go j h out (ℕ_discrete j k);
      same = λ j h y. let d = down j y in others j h d.0 ∙ q.same j h d.1;
    }
      where
        go : (j : ℕ) → j < n → (next j → ⊥) → Dec (j ≡ k) → R j (before j) (after j)
        go j h out (yes e) = subst (λ (i : ℕ). R i (before i) (after i)) (sym e) (r (subst (λ (i : ℕ). i < n) e h))
        go j h out (no ne) = subst (R j (before j)) (sym (others j h ne)) (q.done j h (λ y. out (up j ne y)))

  -- by ascending index: those from k on are left
  pub walked_next : {k : ℕ} {now after : ℕ → A} → Walked n R before (λ j. k ≤ j) now → ((j : ℕ) → j < n → (j ≡ k → ⊥) → after j ≡ now j)
      → (k < n → R k (now k) (after k)) → Walked n R before (λ j. k + 1 ≤ j) after
  walked_next {k} {now} {after} q others r =
      walked_turn q others (λ b. subst (λ (x : A). R k x (after k)) (q.same k b (omega arith)) (r b))
      (λ j ne l. omega arith) (λ j l. ((λ e. omega arith), omega arith))

-- ---- At the end, with a partner G j of each slot below m: `walk₂`
module _ {C A B : Type 0} (f : ℕ → A → B → Stop C A) (F H : ℕ → A) (G : ℕ → B) where
  -- from k on, where each step met no conflict
  end_from : (k n m : ℕ) → ((x : ℕ) → k ≤ x → x < k + n → x < k + m → f x (F x) (G x) ≡ fine (H x))
      → ((x : ℕ) → k + m ≤ x → x < k + n → H x ≡ F x) → walk₂ f k (list_from F k n) (list_from G k m) ≡ fine (list_from H k n)
  unfolding list_from
  end_from k zero m a b = refl
  end_from k (suc n) zero a b = rw (b k (omega arith) (omega arith), list_ext F H (suc k) n (λ x p q. b x (omega arith) (omega arith)))
  end_from k (suc n) (suc m) a b = rw (
    a k (omega arith) (omega arith) (omega arith),
    end_from (suc k) n m (λ x p q r. a x (omega arith) (omega arith) (omega arith)) (λ x p q. b x (omega arith) (omega arith)),
  )

  -- from the first slot on
  pub walk_end : (n m : ℕ) → Walked n (λ j x y. f j x (G j) ≡ fine y) F (λ j. m ≤ j) H
      → walk₂ f 0 (list_from F 0 n) (list_from G 0 m) ≡ fine (list_from H 0 n)
  walk_end n m q = end_from 0 n m (λ x a b c. q.done x (omega arith) (λ l. omega arith)) (λ x a b. q.same x (omega arith) (omega arith))

  -- from k on, where step k + d met one
  stop_from : (k n m d : ℕ) (c : C) → d < n → d < m → ((x : ℕ) → k ≤ x → x < k + d → f x (F x) (G x) ≡ fine (H x))
      → f (k + d) (F (k + d)) (G (k + d)) ≡ stopped (H (k + d)) c → ((x : ℕ) → k + d < x → x < k + n → H x ≡ F x)
      → walk₂ f k (list_from F k n) (list_from G k m) ≡ stopped (list_from H k n) c
  unfolding list_from
  stop_from k zero m d c u v a e b = absurd (omega arith)
  stop_from k (suc n) zero d c u v a e b = absurd (omega arith)
  stop_from k (suc n) (suc m) zero c u v a e b =
      let z : k + 0 ≡ k = omega arith in let w : f k (F k) (G k) ≡ stopped (H k) c = rw z at e in
      rw (w, list_ext F H (suc k) n (λ x p q. b x (omega arith) (omega arith)))
  stop_from k (suc n) (suc m) (suc d) c u v a e b =
      let z : k + suc d ≡ suc k + d = omega arith in
      let w = stop_from (suc k) n m d c (omega arith) (omega arith) (λ x p q. a x (omega arith) (omega arith)) (rw z at e) in
      rw (a k (omega arith) (omega arith), w (λ x p q. b x (omega arith) (omega arith)))

  -- from the first slot on, where step k met one
  pub walk_stop : {n m k : ℕ} {c : C} {now : ℕ → A} → Walked n (λ j x y. f j x (G j) ≡ fine y) F (λ j. k ≤ j) now → k < n → k < m
      → ((j : ℕ) → j < n → (j ≡ k → ⊥) → H j ≡ now j) → f k (now k) (G k) ≡ stopped (H k) c
      → walk₂ f 0 (list_from F 0 n) (list_from G 0 m) ≡ stopped (list_from H 0 n) c
  walk_stop {n} {m} {k} {c} q u v o e =
      let z : 0 + k ≡ k = omega arith in
      let w : f k (F k) (G k) ≡ stopped (H k) c = subst (λ (x : A). f k x (G k) ≡ stopped (H k) c) (q.same k u (omega arith)) e in
      stop_from 0 n m k c u v
      (λ x a b. q.done x (omega arith) (λ l. omega arith) ∙ ap fine (sym (o x (omega arith) (λ y. omega arith))))
      (rw z w) (λ x a b. o x (omega arith) (λ y. omega arith) ∙ q.same x (omega arith) (omega arith))

-- ---- and `over₂`, which meets no conflict
module _ {A B : Type 0} (f : ℕ → A → B → A) where
  -- as a walk
  over_walk : (k : ℕ) (s : List A) (t : List B) → walk₂ {C = ℕ} (λ j x y. fine (f j x y)) k s t ≡ fine (over₂ f k s t)
  over_walk k [] t = refl
  over_walk k (x ∷ s) [] = refl
  over_walk k (x ∷ s) (y ∷ t) = rw (over_walk (suc k) s t)

  -- from the first slot on
  pub over_end : (F H : ℕ → A) (G : ℕ → B) (n m : ℕ) → Walked n (λ j x y. y ≡ f j x (G j)) F (λ j. m ≤ j) H
      → list_from H 0 n ≡ over₂ f 0 (list_from F 0 n) (list_from G 0 m)
  over_end F H G n m q =
      let z : Walked n (λ j x y. fine {C = ℕ} (f j x (G j)) ≡ fine y) F (λ j. m ≤ j) H =
      record { done = λ j h o. ap fine (sym (q.done j h o)); same = q.same } in
      ap (λ (y : Stop ℕ (List A)). y.value) (sym (walk_end (λ j x y. fine {C = ℕ} (f j x y)) F H G n m z)
      ∙ over_walk 0 (list_from F 0 n) (list_from G 0 m))
