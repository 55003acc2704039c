-- `update` from a texture of another set: what is asked for, and the model's update by pieces, case by case.
use Rattle.model.specs.Prelude.{ℕ, refl, sym, List}
use Rattle.model.specs.declared.{UsageFlags.UsageFlags, Extent.Extent, Range.Range}
use Rattle.model.specs.Texture.{Held, single, many, given_many, Piece, fresh_mips, spread_end, update}
use Rattle.std.specs.Prelude.{◌≡◌}
use Rattle.set_storage.specs.{declared.stored.Stored.Stored, Storage.{numbers_of, flags_of, start_half, end_half}, Texture.TextureHeld}
use Rattle.texture_merge.specs.FromSet.{GivenReady}
use Rattle.texture_update.specs.{Update.UpdateReady, Pieces.{updates, updates_are}}

-- the texture of a tracker, with the extent that the given one has
pub record UpdateFromReady (t s e : List ℕ) (sh : Extent) (g : Stored) (p : UsageFlags) : Type 0 where
  pub start : TextureHeld (numbers_of t) start_half t s g.i sh
  pub end : TextureHeld (numbers_of t) end_half t e g.i sh
  pub flags : p ≡ flags_of t
  pub given : GivenReady g sh p

-- one state for all of the texture, as a use
pub from_use_lem : {t s e : List ℕ} {sh : Extent} {g : Stored} {p : UsageFlags} → UpdateFromReady t s e sh g p
    → (new : ℕ) → (new ≡ p.complex → ⊥) → UpdateReady t s e g.i sh p new
from_use_lem x new c = record { start = x.start; end = x.end; flags = x.flags; plain = c }

-- ---- The model's update by pieces: a Single end is broken up, a Many one takes them in turn
module _ (p : UsageFlags) (sh : Extent) (qs : List Piece) where
  pub pieces_single : (x : Held) (cur : ℕ)
      → update p sh (record { start = x; end = single cur }) (given_many qs)
      ≡ record { start = x; end = many (spread_end p.unknown cur qs (fresh_mips sh cur)) }
  unfolding update
  pieces_single x cur = refl

  pub pieces_many : (x : Held) (ss : List (List Range))
      → update p sh (record { start = x; end = many ss }) (given_many qs) ≡ updates p.unknown qs (record { start = x; end = many ss })
  unfolding update
  pieces_many x ss = sym (updates_are p.unknown qs ss x)
