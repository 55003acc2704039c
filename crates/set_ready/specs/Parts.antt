-- What a selection names of a texture: all of it, or a part.
use Rattle.model.specs.Prelude.{ℕ, arith, refl, true, and-eq-true_iff, Option, None, Some, eqb-true}
use Rattle.model.specs.{declared.{Extent.Extent, Selector.Selector}, Representation.{is_full, full}, Texture.{Given, from_use}}
use Rattle.model.specs.{BoolLaws.{by_test, by_test₂}, CheckLaws.SelectorWithin}
use Rattle.std.specs.Prelude.{◌<◌, ◌≡◌, if◌then◌else◌}
use Rattle.set_storage.specs.Uses.{use_of, PartWithin}
use Rattle.set_checks.specs.{Head.selector_refusal, Passed.selector_passed}

-- "A use is *whole* if no selector is given or it equals the full shape"
abbrev pub part_named : Extent → Option Selector → Option Selector
part_named sh None = None
part_named sh (Some q) = if is_full sh q then None else Some q

-- it hands in what the model's use does
pub part_use : (sh : Extent) (s : Option Selector) (st : ℕ) → from_use sh s st ≡ use_of (part_named sh s) st
part_use sh None st = refl
part_use sh (Some q) st = by_test₂ (λ (x : Given) (y : Option Selector). x ≡ use_of y st) (is_full sh q) (λ b. refl) (λ b. refl)

-- and lies within the texture, once the checks 16 to 19 and 11 passed
pub part_within : (sh : Extent) (s : Option Selector) → selector_refusal sh s ≡ None → PartWithin sh (part_named sh s)
part_within sh None e = tt
part_within sh (Some q) e = by_test (PartWithin sh) (is_full sh q) (λ b. tt) (λ b. selector_passed sh q e)

-- ---- A selector that names all of a texture is the full one
pub full_is : (sh : Extent) (q : Selector) → is_full sh q ≡ true → q ≡ full sh
full_is sh q e =
    let a = (and-eq-true_iff _ _).0 e in let b = (and-eq-true_iff _ _).0 a.0 in let c = (and-eq-true_iff _ _).0 b.0 in
    let z₀ = eqb-true _ _ c.0 in let z₁ = eqb-true _ _ c.1 in let z₂ = eqb-true _ _ b.1 in let z₃ = eqb-true _ _ a.1 in
    λ i. record {
      mips = record { start = record { 0 = z₀ i }; end = record { 0 = z₁ i } };
      layers = record { start = record { 0 = z₂ i }; end = record { 0 = z₃ i } };
    }

-- which lies within the texture
pub full_within : (sh : Extent) → 0 < sh.mips → 0 < sh.layers → SelectorWithin sh (full sh)
full_within sh a b = record { order = a; span = b; in_mips = omega arith; in_layers = omega arith }
