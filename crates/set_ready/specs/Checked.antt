-- A use and a texture that passed the checks: the texture, owned or about to be, is ready for the use.
use Rattle.model.specs.Prelude.{ℕ, sym, ap, subst, ◌∙◌, true, false, Option, Some, List, bit_and, bit_or, get_or, ne_eqb, not-false}
use Rattle.model.specs.Prelude.{eqb-true}
use Rattle.model.specs.{declared.{UsageFlags.UsageFlags, Extent.Extent, Selector.Selector}, Flags.meets, Sets.Numbers}
use Rattle.model.specs.{RangedStates.Tiles, CheckLaws.StatePassed}
use Rattle.std.specs.Prelude.{◌+◌, ◌≡◌}
use Rattle.set_storage.specs.{Storage.{numbers_of, flags_of, extent_of, owned_of, start_half, end_half, mip_of, owned_at}, Frames.Measured}
use Rattle.set_storage.specs.{Texture.{TextureReady, TextureHeld}, Uses.PartWithin}
use Rattle.texture_merge.specs.Uses.{UseReady, HeldReady}
use Rattle.texture_update.specs.Update.{UpdateReady, Selecting}
use Rattle.set_checks.specs.Passed.{TexturePassed}
use Rattle.set_ready.specs.Tested.{HalfFits, not_bit, union_not_bit}

-- ---- A state that passed the checks
apart : (a b : ℕ) → meets a b ≡ false → bit_and a b ≡ 0
apart a b e = eqb-true _ _ (not-false _ e)

module _ {p : UsageFlags} {st : ℕ} (k : StatePassed p st) where
  -- it is not COMPLEX
  state_plain : st ≡ p.complex → ⊥
  state_plain = not_bit st p.complex k.nonzero (apart st p.complex k.plain)

  -- nor UNKNOWN
  state_known : st ≡ p.unknown → ⊥
  state_known = not_bit st p.unknown k.nonzero (apart st p.unknown k.known)

  -- nor is a union with it COMPLEX
  state_union : (x : ℕ) → bit_or x st ≡ p.complex → ⊥
  state_union x = union_not_bit x st p.complex k.nonzero (apart st p.complex k.plain)

-- ---- A use that passed the checks, of a texture with the extent sh, by the flags of the table t
pub record TakenUse (t : List ℕ) (sh : Extent) (part : Option Selector) (p : UsageFlags) (new : ℕ) : Type 0 where
  pub flags : p ≡ flags_of t
  pub within : PartWithin sh part
  pub state : StatePassed p new

-- ---- Its word says whether a texture is owned
pub word_owned : (t : List ℕ) (i : ℕ) → (get_or t (owned_at i) 0 ≡ 0 → ⊥) → owned_of t i ≡ true
word_owned t i own = rw (ne_eqb (get_or t (owned_at i) 0) 0 own)

-- ---- A texture that passed the checks and has the extent already, in a set that passed the test
module _ {h i : ℕ} {t r : List ℕ} {sh : Extent} (m : Measured (numbers_of t) h t r) (x : TexturePassed t i sh)
    (e : extent_of t i ≡ sh) where
  texture_ready : TextureReady (numbers_of t) h t r i sh
  texture_ready = record {
    measured = m;
    index = x.texture;
    mips = ap (λ (y : Extent). y.mips) e;
    layers = ap (λ (y : Extent). y.layers) e;
    mip = x.mip;
    top = x.top;
    some = x.some;
    low = x.low;
  }

  -- and what the half holds fits
  pub texture_held : HalfFits h t r i → TextureHeld (numbers_of t) h t r i sh
  texture_held f = record {
    ready = texture_ready;
    tiled = λ c k l. subst (Tiles 0 (mip_of (numbers_of t) h t r i k)) texture_ready.layers (f.tiled c k (rw texture_ready.mips l));
  }

-- ---- A use of it
module _ {t : List ℕ} {sh : Extent} {part : Option Selector} {p : UsageFlags} {new : ℕ} (u : TakenUse t sh part p new) where
  -- in a table with the same flags
  pub use_ready : {d : Numbers} {h i : ℕ} {t' r : List ℕ} → TextureReady d h t' r i sh → flags_of t' ≡ flags_of t
      → UseReady d h t' r i sh part p new
  use_ready x e = record { texture = x; within = u.within; flags = u.flags ∙ sym e; plain = state_plain u.state }

  pub held_ready : {h i : ℕ} {r : List ℕ} → TextureHeld (numbers_of t) h t r i sh → HeldReady h t r i sh new
  held_ready {h} {i} x = record {
    tiled = x.tiled;
    plain = λ z. state_union u.state (get_or t (h + i) 0)
        (z ∙ sym (ap (λ (f : UsageFlags). f.complex) u.flags));
  }

  -- of a tracker's, owned
  pub update_ready : {i : ℕ} {s e : List ℕ} → TextureHeld (numbers_of t) start_half t s i sh → TextureHeld (numbers_of t) end_half t e i sh
      → UpdateReady t s e i sh p new
  update_ready x y = record { start = x; end = y; flags = u.flags; plain = state_plain u.state }

-- of a part
pub selecting : {t : List ℕ} {sh : Extent} {q : Selector} {p : UsageFlags} {new : ℕ} → TakenUse t sh (Some q) p new → Selecting sh q p new
selecting u = record { selector = u.within; known = state_known u.state }
