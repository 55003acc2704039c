-- A use of a texture: a state for all of it, or for the part that a selector names.
use Rattle.model.specs.Prelude.{ℕ, Option, None, Some, []}
use Rattle.model.specs.declared.{Extent.Extent, Selector.Selector}
use Rattle.model.specs.{CheckLaws.SelectorWithin, Texture.{Given, given_single, given_many, Piece}}
use Rattle.std.specs.Prelude.{◌∷◌}

-- a state of what a selector names
abbrev pub piece : Selector → ℕ → Piece
piece q st = record { selector = q; state = st }

-- as the model is given it
abbrev pub use_of : Option Selector → ℕ → Given
use_of None new = given_single new
use_of (Some q) new = given_many (piece q new ∷ [])

-- the part lies within the texture
abbrev pub PartWithin : Extent → Option Selector → Type 0
PartWithin sh None = Unit {0}
PartWithin sh (Some q) = SelectorWithin sh q
