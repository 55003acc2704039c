-- The layers of a list of ranges: how many they are, and those that it covers; and a texture whose ranges add up, mip by mip, to its
-- layers.
use Rattle.std.specs.Prelude.{◌+◌, ◌-◌, ◌≡◌, ◌&&◌, ◌||◌, ◌∷◌}
use Rattle.model.specs.Prelude.{ℕ, Bool, false, List, [], leb, ltb}
use Rattle.model.specs.{declared.{Extent.Extent, Range.Range}, Texture.{Held, single, many}, Base.All}
use Rattle.agreement.specs.LogBound.{sum_from, one_if}

-- a layer lies in a range of the list
abbrev pub covers : List Range → ℕ → Bool
covers [] l = false
covers (r ∷ s) l = (leb r.start l && ltb l r.end) || covers s l

-- the layers below w that the list covers
abbrev pub covered : List Range → ℕ → ℕ
covered s w = sum_from (λ l. one_if (covers s l)) 0 w

-- the lengths of the ranges, added up
abbrev pub lengths : List Range → ℕ
lengths [] = 0
lengths (r ∷ s) = (r.end - r.start) + lengths s

-- of a texture: the ranges of each mip add up to the layers of its extent
abbrev pub AddUp : Extent → Held → Type 0
AddUp sh (single st) = Unit {0}
AddUp sh (many ss) = All (λ (s : List Range). lengths s ≡ sh.layers) ss
