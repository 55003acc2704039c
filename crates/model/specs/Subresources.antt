-- A ranged texture read subresource by subresource (01: cell by cell), mip by mip.
use Rattle.model.specs.Prelude.{ℕ, List, map, replicate}
use Rattle.model.specs.{declared.Extent.Extent, RangedStates.layer_states, Texture.{Held, single, many}}

-- one value for each layer of each mip
abbrev pub everywhere : {A : Type 0} → Extent → A → List (List A)
everywhere sh x = replicate sh.mips (replicate sh.layers x)

-- "In the range keeper a cell has the state of the range with its layer, or of its whole texture."
unfoldable pub subresources : Extent → Held → List (List ℕ)
unfolding layer_states
subresources sh (single st) = everywhere sh st
subresources sh (many ss) = map layer_states ss
