-- One texture: how it is held, what a use hands in, and what is done with it. Sets and calls are written once over this record;
-- the ranged representation (the Rust) and the grid (01's sheet) are two of its values.
use Rattle.std.specs.Prelude.{◌&&◌}
use Rattle.model.specs.Prelude.{ℕ, Bool, Option, leb, ltb, eqb}
use Rattle.model.specs.{declared.{UsageFlags.UsageFlags, Extent.Extent, Selector.Selector}, Base.Stop}

-- ---- Selectors
-- the selector of mips m up to n and layers a up to e
abbrev pub select : ℕ → ℕ → ℕ → ℕ → Selector
select m n a e = record {
  mips = record { start = record { 0 = m }; end = record { 0 = n } };
  layers = record { start = record { 0 = a }; end = record { 0 = e } };
}

-- `mips.start`
abbrev pub mip_start : Selector → ℕ
mip_start q = q.mips.start.0

-- `mips.end`
abbrev pub mip_end : Selector → ℕ
mip_end q = q.mips.end.0

-- `layers.start`
abbrev pub layer_start : Selector → ℕ
layer_start q = q.layers.start.0

-- `layers.end`
abbrev pub layer_end : Selector → ℕ
layer_end q = q.layers.end.0

-- "the full shape": every mip and layer
abbrev pub full : Extent → Selector
full sh = select 0 sh.mips 0 sh.layers

-- "A use is *whole* if no selector is given or it equals the full shape, otherwise *parted*."
abbrev pub is_full : Extent → Selector → Bool
is_full sh q = eqb (mip_start q) 0 && eqb (mip_end q) sh.mips && eqb (layer_start q) 0 && eqb (layer_end q) sh.layers

-- whether a selector has mip k
abbrev pub in_mips : Selector → ℕ → Bool
in_mips q k = leb (mip_start q) k && ltb k (mip_end q)

-- whether it has the subresource at mip m and layer l
abbrev pub holds : Selector → ℕ → ℕ → Bool
holds q m l = in_mips q m && leb (layer_start q) l && ltb l (layer_end q)

-- ---- What a tracker keeps of a texture
-- its state in `start_set` and in `end_set`
pub record Ends (H : Type 0) : Type 0 where
  pub start : H
  pub end : H

-- ---- The record
-- what is held of a texture, given, in conflict and logged, and what is done with it
pub record Representation : Type 1 where
  pub Held : Type 0
  pub Given : Type 0
  pub Conflict : Type 0
  pub Log : Type 0
  -- a texture in one state, as an opened set has it
  pub fresh : ℕ → Held
  -- what a selector with a state hands in, and what a set's texture does
  pub use_of : Extent → Option Selector → ℕ → Given
  pub pass : Held → Given
  pub insert : UsageFlags → Extent → Given → Held
  pub merge : UsageFlags → Extent → Held → Given → Stop Conflict Held
  -- the transitions from a held end to a given start, by the ordered mask
  pub log : UsageFlags → ℕ → Extent → Held → Given → Log
  pub update : UsageFlags → Extent → Ends Held → Given → Ends Held
