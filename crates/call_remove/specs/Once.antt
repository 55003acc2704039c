-- Lists of indices, each of which counts once: whether one was listed before, and what a list makes.
use Rattle.model.specs.Prelude.{ℕ, zero, suc, arith, refl, sym, ap, ◌∙◌, inl, inr, Bool, true, false, false≢true, List, [], append_assoc}
use Rattle.model.specs.Prelude.{append-nil, eqb, length, get_or, take, drop, take-suc, drop-cons, drop-length, eqb-true, eqb-false}
use Rattle.model.specs.{Base.each, ListLaws.each_append}
use Rattle.std.specs.Prelude.{◌≤◌, ◌<◌, ◌≡◌, ◌⊎◌, ◌∷◌, ◌++◌, if◌then◌else◌}
use Rattle.agreement.specs.LogBound.{listed}
use Rattle.log_head.specs.UpTo.{up_to}

-- ---- Whether an index is listed
-- one more index at the end
pub listed_last : (j i : ℕ) (l : List ℕ) → listed j (l ++ (i ∷ [])) ≡ (if eqb i j then true else listed j l)
listed_last j i [] = refl
listed_last j i (x ∷ l) = go (eqb x j) (eqb i j) (listed_last j i l)
  where
    go : (a b : Bool) → listed j (l ++ (i ∷ [])) ≡ (if b then true else listed j l)
        → (if a then true else listed j (l ++ (i ∷ []))) ≡ (if b then true else (if a then true else listed j l))
    go true true e = refl
    go true false e = refl
    go false b e = e

-- not after one more index: not before it, and it is another
pub not_listed : (is : List ℕ) (i j : ℕ) → listed j (is ++ (i ∷ [])) ≡ false → (listed j is ≡ false) × (j ≡ i → ⊥)
not_listed is i j e = go (eqb i j) refl (sym (listed_last j i is) ∙ e)
  where
    go : (b : Bool) → eqb i j ≡ b → (if b then true else listed j is) ≡ false → (listed j is ≡ false) × (j ≡ i → ⊥)
    go true q z = absurd (false≢true (sym z))
    go false q z = (z, λ w. eqb-false i j q (sym w))

-- after one more index: before it, or it is that
pub is_listed : (is : List ℕ) (i j : ℕ) → listed j (is ++ (i ∷ [])) ≡ true → (listed j is ≡ true) ⊎ (j ≡ i)
is_listed is i j e = go (eqb i j) refl (sym (listed_last j i is) ∙ e)
  where
    go : (b : Bool) → eqb i j ≡ b → (if b then true else listed j is) ≡ true → (listed j is ≡ true) ⊎ (j ≡ i)
    go true q z = inr (sym (eqb-true i j q))
    go false q z = inl z

-- ---- What f makes of the indices of a list, in its order, of each once and of those in `seen` no more
unfoldable pub each_once : {A : Type 0} → (ℕ → List A) → List ℕ → List ℕ → List A
each_once f seen [] = []
each_once f seen (i ∷ is) = (if listed i seen then [] else f i) ++ each_once f (seen ++ (i ∷ [])) is

-- at position k of the list
abbrev pub once_at : {A : Type 0} → (ℕ → List A) → List ℕ → ℕ → List A
once_at f is k = if listed (get_or is k 0) (take k is) then [] else f (get_or is k 0)

module _ {A : Type 0} (f : ℕ → List A) (is : List ℕ) where
  -- position k first
  once_next : (k : ℕ) → k < length is
      → each_once f (take k is) (drop k is) ≡ once_at f is k ++ each_once f (take (suc k) is) (drop (suc k) is)
  unfolding each_once
  once_next k h = rw (drop-cons is k 0 h, take-suc is k 0 h)

  -- the first k positions, and then the others
  once_front : (k : ℕ) → k ≤ length is → up_to (once_at f is) k ++ each_once f (take k is) (drop k is) ≡ each_once f [] is
  unfolding up_to
  once_front zero h = refl
  once_front (suc k) h =
      append_assoc (up_to (once_at f is) k) (once_at f is k) (each_once f (take (suc k) is) (drop (suc k) is))
      ∙ ap (λ (y : List A). up_to (once_at f is) k ++ y) (sym (once_next k h)) ∙ once_front k (omega arith)

  -- one position after another
  pub once_up : each_once f [] is ≡ up_to (once_at f is) (length is)
  unfolding each_once
  once_up =
      sym (once_front (length is) (omega arith))
      ∙ ap (λ (y : List ℕ). up_to (once_at f is) (length is) ++ each_once f (take (length is) is) y) (drop-length is)
      ∙ append-nil (up_to (once_at f is) (length is))

-- what is made alike at each position
pub up_ext : {A : Type 0} (f g : ℕ → List A) (n : ℕ) → ((k : ℕ) → k < n → f k ≡ g k) → up_to f n ≡ up_to g n
unfolding up_to
up_ext f g zero e = refl
up_ext f g (suc n) e = rw (up_ext f g n (λ k h. e k (omega arith)), e n (omega arith))

-- what r makes of all that
pub once_each : {A B : Type 0} (r : A → List B) (f : ℕ → List A) (seen is : List ℕ)
    → each r (each_once f seen is) ≡ each_once (λ (i : ℕ). each r (f i)) seen is
unfolding each_once
once_each r f seen [] = refl
once_each r f seen (i ∷ is) =
    each_append r (if listed i seen then [] else f i) (each_once f (seen ++ (i ∷ [])) is)
    ∙ rw (once_each r f (seen ++ (i ∷ [])) is, go (listed i seen))
  where
    go : (b : Bool) → each r (if b then [] else f i) ≡ (if b then [] else each r (f i))
    go true = refl
    go false = refl
