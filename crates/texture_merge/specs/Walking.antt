-- A walk over a list that is changed in place: what is done, then what is left; and walks that no conflict stops.
use Rattle.std.specs.Prelude.{◌+◌, ◌≤◌, ◌<◌, ◌≡◌, ◌&&◌, ◌∷◌, ◌++◌, if◌then◌else◌}
use Rattle.model.specs.Prelude.{ℕ, zero, suc, add-one, arith, refl, sym, ◌∙◌, Bool, true, false, None, Some, List}
use Rattle.model.specs.Prelude.{[], append_assoc, leb, length, get_or, set, take, drop, replicate, take-append-drop, take-suc}
use Rattle.model.specs.Prelude.{drop-cons, drop-set-lt, take-suc-set, set_split, get_or-set_other, le-leb, lt-leb, lt-ltb, le-ltb}
use Rattle.model.specs.{declared.{Range.Range, Selector.Selector}, Base.{Stop, fine, onward, walk}}
use Rattle.model.specs.{Representation.{mip_start, mip_end, in_mips}, Texture.on_mips}

module _ {C A : Type 0} (f : ℕ → A → Stop C A) where
  pub record Walking (l₀ : List A) (k : ℕ) (l : List A) : Type 0 where
    pub conflict : (walk f k (drop k l)).conflict ≡ (walk f 0 l₀).conflict
    pub value : take k l ++ (walk f k (drop k l)).value ≡ (walk f 0 l₀).value

  pub walk_start : (l : List A) → Walking l 0 l
  walk_start l = record { conflict = refl; value = refl }

  module _ {l₀ : List A} {k : ℕ} {l : List A} (w : Walking l₀ k l) (d : A) (h : k < length l) where
    abbrev here : Stop C A
    here = f k (get_or l k d)

    conflict_here : (walk f k (get_or l k d ∷ drop (suc k) l)).conflict ≡ (walk f 0 l₀).conflict
    conflict_here = rw (drop-cons l k d h) at w.conflict

    value_here : take k l ++ (walk f k (get_or l k d ∷ drop (suc k) l)).value ≡ (walk f 0 l₀).value
    value_here = rw (drop-cons l k d h) at w.value

    -- one step, that does not stop
    pub walk_turn : (l' : List A) → l' ≡ set l k here.value → here.conflict ≡ None → Walking l₀ (k + 1) l'
    walk_turn l' e c =
        let dr : drop (suc k) l' ≡ drop (suc k) l = rw e (drop-set-lt (suc k) l k here.value (omega arith)) in
        let tk : take (suc k) l' ≡ take k l ++ (here.value ∷ []) = rw e (take-suc-set l k here.value h) in
        rw add-one record { conflict = rw dr (rw c at conflict_here); value = rw (dr, tk, append_assoc) (rw c at value_here) }

    -- the step that stops
    pub walk_stop : (l' : List A) (x : C) → l' ≡ set l k here.value → here.conflict ≡ Some x
        → (l' ≡ (walk f 0 l₀).value) × (Some x ≡ (walk f 0 l₀).conflict)
    walk_stop l' x e c = (e ∙ set_split l k here.value h ∙ rw c at value_here, rw c at conflict_here)

    -- a step that leaves the element
    walk_pass : here ≡ fine (get_or l k d) → Walking l₀ (k + 1) l
    walk_pass e = rw add-one record { conflict = rw e at conflict_here; value = rw (take-suc l k d h, append_assoc) (rw e at value_here) }

  -- what is left is passed over
  pub walk_rest : (k : ℕ) (l : List A) → ((j : ℕ) (x : A) → k ≤ j → f j x ≡ fine x) → walk f k l ≡ fine l
  walk_rest k [] g = refl
  walk_rest k (x ∷ l) g = rw (g k x (omega arith), walk_rest (suc k) l (λ j y q. g j y (omega arith)))

  pub walk_end : {l₀ : List A} {k : ℕ} {l : List A} → Walking l₀ k l → walk f k (drop k l) ≡ fine (drop k l)
      → (l ≡ (walk f 0 l₀).value) × (None ≡ (walk f 0 l₀).conflict)
  walk_end {l₀} {k} {l} w e = (sym (take-append-drop k l) ∙ rw e at w.value, rw e at w.conflict)

  -- what lies before k is passed over
  walk_skip : (d : A) (l : List A) (k : ℕ) → k ≤ length l → ((j : ℕ) (x : A) → j < k → f j x ≡ fine x) → Walking l k l
  walk_skip d l zero h g = walk_start l
  walk_skip d l (suc k) h g =
      rw (← add-one k) (walk_pass (walk_skip d l k (omega arith) (λ j x q. g j x (omega arith))) d (omega arith)
      (g k (get_or l k d) (omega arith)))

-- ---- and what comes from k on is as it was
module _ {C A : Type 0} (d : A) (f : ℕ → A → Stop C A) where
  pub record InPlace (l₀ : List A) (k : ℕ) (l : List A) : Type 0 where
    pub walking : Walking f l₀ k l
    pub left : (j : ℕ) → k ≤ j → get_or l j d ≡ get_or l₀ j d

  pub place_skip : (l : List A) (k : ℕ) → k ≤ length l → ((j : ℕ) (x : A) → j < k → f j x ≡ fine x) → InPlace l k l
  place_skip l k h g = record { walking = walk_skip f d l k h g; left = λ j q. refl }

  pub place_turn : {l₀ : List A} {k : ℕ} {l : List A} → InPlace l₀ k l → k < length l → (l' : List A)
      → l' ≡ set l k (f k (get_or l k d)).value → (f k (get_or l k d)).conflict ≡ None → InPlace l₀ (k + 1) l'
  place_turn {l₀} {k} {l} w h l' e c = record {
    walking = walk_turn f w.walking d h l' e c;
    left = λ j q. rw e (get_or-set_other l k j (f k (get_or l k d)).value d (λ z. omega arith)) ∙ w.left j (omega arith);
  }

-- ---- The mips that a selector names; the others are passed over
abbrev pub among : {C A : Type 0} → Selector → (ℕ → A → Stop C A) → ℕ → A → Stop C A
among q f k s = if in_mips q k then f k s else fine s

module _ {C A : Type 0} (q : Selector) (f : ℕ → A → Stop C A) (k : ℕ) (s : A) where
  pub among_in : mip_start q ≤ k → k < mip_end q → among q f k s ≡ f k s
  among_in a b = rw (le-leb (mip_start q) k a, lt-ltb k (mip_end q) b)

  pub among_under : k < mip_start q → among q f k s ≡ fine s
  among_under a = rw (lt-leb (mip_start q) k a)

  pub among_over : mip_end q ≤ k → among q f k s ≡ fine s
  among_over a = rw (le-ltb k (mip_end q) a) (go (leb (mip_start q) k))
    where
      go : (b : Bool) → (if b && false then f k s else fine s) ≡ fine s
      go true = refl
      go false = refl

-- ---- No conflict: each mip of a selector is changed by g, and each is made anew
pub walk_edits : {C : Type 0} (q : Selector) (g : List Range → List Range) (k : ℕ) (ss : List (List Range))
    → walk {C = C} (among q (λ j s. fine (g s))) k ss ≡ fine (on_mips q g k ss)
walk_edits q g k [] = refl
walk_edits {C} q g k (s ∷ ss) = go (in_mips q k) (walk_edits q g (suc k) ss)
  where
    go : (b : Bool) → walk {C = C} (among q (λ j s. fine (g s))) (suc k) ss ≡ fine (on_mips q g (suc k) ss)
        → onward (if b then fine {C = C} (g s) else fine {C = C} s).value (if b then fine {C = C} (g s) else fine {C = C} s).conflict
        ss (walk (among q (λ j s. fine (g s))) (suc k) ss) ≡ fine ((if b then g s else s) ∷ on_mips q g (suc k) ss)
    go true e = rw e
    go false e = rw e

pub walk_fresh : {C A : Type 0} (v : A) (k n : ℕ) (l : List A) → length l ≡ n → walk {C = C} (λ j x. fine v) k l ≡ fine (replicate n v)
walk_fresh v k zero [] e = refl
walk_fresh v k (suc n) [] e = absurd (omega arith)
walk_fresh v k zero (x ∷ l) e = absurd (omega arith)
walk_fresh {C = C} v k (suc n) (x ∷ l) e = rw (walk_fresh {C = C} v (suc k) n l (omega arith))
