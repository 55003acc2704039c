-- A texture of another set, given to one half: what is asked for.
use Rattle.std.specs.Prelude.{◌+◌, ◌≡◌}
use Rattle.model.specs.Prelude.{ℕ, refl, sym, ap, ◌∙◌, None, List, bit_or, get_or}
use Rattle.model.specs.declared.{UsageFlags.UsageFlags, Extent.Extent}
use Rattle.model.specs.Texture.{given_single, given_many, pieces_of, from_held}
use Rattle.set_storage.specs.{declared.stored.Stored.Stored, Storage.{numbers_of, flags_of, complex_at}, Slots.{held_many, held_single}}
use Rattle.set_storage.specs.Stored.{word_of, mips_stored, held_in, HeldAs}
use Rattle.set_storage.specs.Texture.{TextureReady, RangesTile, texture_mips}
use Rattle.texture_merge.specs.{Ready.many_of, Giving.GivenTexture, Uses.{UseReady, HeldReady}}

-- a texture of another set, of the extent sh, with the flags p
pub record GivenReady (g : Stored) (sh : Extent) (p : UsageFlags) : Type 0 where
  pub texture : HeldAs g sh
  pub flags : flags_of g.table.now ≡ p

-- the texture of this set at its index, owned or about to be, with the extent that it has in the other
pub record SetReady (h : ℕ) (t r : List ℕ) (sh : Extent) (g : Stored) (p : UsageFlags) : Type 0 where
  pub texture : TextureReady (numbers_of t) h t r g.i sh
  pub flags : p ≡ flags_of t
  pub given : GivenReady g sh p

-- what the half holds already; a state for all of the texture must not make it COMPLEX
pub record MergeReady (h : ℕ) (t r : List ℕ) (sh : Extent) (g : Stored) (p : UsageFlags) : Type 0 where
  pub tiled : RangesTile (numbers_of t) h t r g.i sh
  pub plain : (word_of g ≡ p.complex → ⊥) → bit_or (get_or t (h + g.i) 0) (word_of g) ≡ get_or t complex_at 0 → ⊥

-- ---- one state for all of the texture, as a use
pub set_use : {h : ℕ} {t r : List ℕ} {sh : Extent} {g : Stored} {p : UsageFlags} (new : ℕ) → SetReady h t r sh g p
    → (new ≡ p.complex → ⊥) → UseReady (numbers_of t) h t r g.i sh None p new
set_use new x c = record { texture = x.texture; within = tt; flags = x.flags; plain = c }

pub set_held : {h : ℕ} {t r : List ℕ} {sh : Extent} {g : Stored} {p : UsageFlags} → MergeReady h t r sh g p
    → (word_of g ≡ p.complex → ⊥) → HeldReady h t r g.i sh (word_of g)
set_held m c = record { tiled = m.tiled; plain = m.plain c }

-- ---- the given texture
module _ {g : Stored} {sh : Extent} {p : UsageFlags} (x : GivenReady g sh p) where
  complex_is : get_or g.table.now complex_at 0 ≡ p.complex
  complex_is = ap (λ (y : UsageFlags). y.complex) x.flags

  -- what it hands in, by its word
  pub given_state_lem : (word_of g ≡ p.complex → ⊥) → from_held (held_in g) ≡ given_single (word_of g)
  given_state_lem c = ap from_held (held_single (numbers_of g.table.now) g.half g.table.now g.ranges.now g.i (λ z. c (z ∙ complex_is)))

  pub given_pieces : word_of g ≡ p.complex → from_held (held_in g) ≡ given_many (pieces_of (mips_stored g))
  given_pieces c =
      ap from_held (held_many (numbers_of g.table.now) g.half g.table.now g.ranges.now g.i (mips_stored g) (c ∙ sym complex_is) refl)

  -- where it is Many, for a texture of the same extent in the table u
  pub given_many_lem : {k : ℕ} {u s : List ℕ} → word_of g ≡ p.complex → TextureReady (numbers_of u) k u s g.i sh
      → GivenTexture u sh.mips g
  given_many_lem c y = record {
    many = many_of x.texture (c ∙ sym complex_is) _ y.layers;
    own = sym (texture_mips y);
    same = sym (texture_mips x.texture.ready);
  }
