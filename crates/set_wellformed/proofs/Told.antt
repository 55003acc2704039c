-- What each answer of the pass over the words says.
use Rattle.model.specs.Prelude.{refl, sym, ap, ◌∙◌, Bool, true, false}
use Rattle.model.specs.BoolLaws.{and_both as both}
use Rattle.std.specs.Prelude.{◌≡◌, ◌&&◌}
use Rattle.set_wellformed.specs.{declared.words.Finding.{Finding, TheVariants.{Unfit, Plain, Ranged}}, Words.told}

fit_of : Finding → Bool
fit_of Unfit = false
fit_of Plain = true
fit_of Ranged = true

plain_of : Finding → Bool
plain_of Unfit = false
plain_of Plain = true
plain_of Ranged = false

told_fit : (a b : Bool) → a ≡ fit_of (told a b)
unfolding fit_of
told_fit false b = refl
told_fit true true = refl
told_fit true false = refl

told_plain : (a b : Bool) → (a && b) ≡ plain_of (told a b)
unfolding plain_of
told_plain false b = refl
told_plain true true = refl
told_plain true false = refl

module _ (a b : Bool) {x : Finding} (e : x ≡ told a b) where
  pub is_unfit : x ≡ Unfit → a ≡ false
  unfolding fit_of
  is_unfit z = told_fit a b ∙ ap fit_of (sym e ∙ z)

  pub is_plain : x ≡ Plain → (a ≡ true) × (b ≡ true)
  unfolding plain_of
  is_plain z = both a b (told_plain a b ∙ ap plain_of (sym e ∙ z))

  pub is_ranged : x ≡ Ranged → a ≡ true
  unfolding fit_of
  is_ranged z = told_fit a b ∙ ap fit_of (sym e ∙ z)
