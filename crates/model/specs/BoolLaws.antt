-- Tests: a choice by cases, tests joined by `&&` and `||`, and a proof by the two cases of a comparison.
use Rattle.std.specs.Prelude.{◌<◌, ◌≤◌, ◌≡◌, ◌&&◌, ◌||◌, if◌then◌else◌}
use Rattle.model.specs.Prelude.{ℕ, refl, Bool, true, false, not, and-eq-true_iff, false≢true, true≢false}
use Rattle.model.specs.Prelude.{ltb, eqb, ltb-true, ltb-false, eqb-true, eqb-false}

-- a choice has a property where both its arms have it, each under its own answer of the test
pub by_test : {A : Type 0} (P : A → Type 0) (b : Bool) {x y : A} → (b ≡ true → P x) → (b ≡ false → P y) → P (if b then x else y)
by_test P true f g = f refl
by_test P false f g = g refl

-- two choices on one test
pub by_test₂ : {A B : Type 0} (P : A → B → Type 0) (b : Bool) {x y : A} {z w : B}
    → (b ≡ true → P x z) → (b ≡ false → P y w) → P (if b then x else y) (if b then z else w)
by_test₂ P true f g = f refl
by_test₂ P false f g = g refl

-- ---- comparisons
pub by_lt : {P : Type 0} (a b : ℕ) → (a < b → P) → (b ≤ a → P) → P
by_lt {P} a b f g = go (ltb a b) refl
  where
    go : (t : Bool) → ltb a b ≡ t → P
    go true q = f (ltb-true a b q)
    go false q = g (ltb-false a b q)

pub by_eq : {P : Type 0} (a b : ℕ) → (a ≡ b → P) → ((a ≡ b → ⊥) → P) → P
by_eq {P} a b f g = go (eqb a b) refl
  where
    go : (t : Bool) → eqb a b ≡ t → P
    go true q = f (eqb-true a b q)
    go false q = g (eqb-false a b q)

-- ---- joined tests
pub neither : (a b : Bool) → a || b ≡ false → (a ≡ false) × (b ≡ false)
neither true b e = absurd (true≢false e)
neither false b e = (refl, e)

pub nor : (a b : Bool) → not (a || b) ≡ true → (a ≡ false) × (b ≡ false)
nor true b e = absurd (false≢true e)
nor false true e = absurd (false≢true e)
nor false false e = (refl, refl)

pub both : {a b : Bool} → a ≡ true → b ≡ true → (a && b) ≡ true
both {a} {b} x y = (and-eq-true_iff a b).1 (x, y)

pub and_both : (a b : Bool) → (a && b) ≡ true → (a ≡ true) × (b ≡ true)
and_both a b = (and-eq-true_iff a b).0

pub and_left : (a b : Bool) → (a && b) ≡ true → a ≡ true
and_left a b e = (and_both a b e).0

pub and_right : (a b : Bool) → (a && b) ≡ true → b ≡ true
and_right a b e = (and_both a b e).1

pub false_not : (b : Bool) → b ≡ false → not b ≡ true
false_not b e = rw e
