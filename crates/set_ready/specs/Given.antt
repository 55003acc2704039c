-- A texture that a given set holds, for the texture of another set at the same index: what is asked for, and what follows for the
-- functions on one texture.
use Rattle.model.specs.Prelude.{ℕ, refl, sym, ap, subst, ◌∙◌, true, List, get_or}
use Rattle.model.specs.{declared.{UsageFlags.UsageFlags, Extent.Extent}, Texture.{Given, from_held}}
use Rattle.std.specs.Prelude.{◌+◌, ◌<◌, ◌≡◌}
use Rattle.set_storage.specs.Storage.{numbers_of, flags_of, extent_of, owned_of, start_half, end_half, held_of, complex_at, owned_at}
use Rattle.set_storage.specs.{Storage.{textures_at, table_indices}, Stays.{Only, OnlyOwned}, Frames.Measured}
use Rattle.set_storage.specs.{declared.stored.Stored.Stored, Stored.{HeldAs, word_of}}
use Rattle.set_storage.specs.Texture.{TextureReady, TextureHeld}
use Rattle.texture_merge.specs.FromSet.{GivenReady, SetReady, MergeReady}
use Rattle.texture_update.specs.FromSet.{UpdateFromReady}
use Rattle.agreement.specs.Fits.{ExtentFits}
use Rattle.set_ready.specs.{Tested.{HalfFits, half_fits, union_not_bit, ScopeTested}, Checked.{word_owned, texture_held}}

-- what the half h of a set hands in at index i
abbrev pub given_at : ℕ → List ℕ → List ℕ → ℕ → Given
given_at h g r i = from_held (held_of (numbers_of g) h g r i)

-- ---- What is required: texture i in the half h of a set that passed the test, with the flags of the set t that takes it
pub record HalfGiven (t : List ℕ) (i : ℕ) (sh : Extent) (h : ℕ) (g r : List ℕ) : Type 0 where
  pub measured : Measured (numbers_of g) h g r
  pub texture : i < get_or g textures_at 0
  pub flags : flags_of g ≡ flags_of t
  pub extent : extent_of g i ≡ sh
  pub fits : ExtentFits (numbers_of g) sh
  pub held : HalfFits h g r i

-- an owned one of a scope
pub owned_given : {t g r : List ℕ} {i : ℕ} → ScopeTested g r → flags_of g ≡ flags_of t → i < get_or g textures_at 0 → owned_of g i ≡ true
    → HalfGiven t i (extent_of g i) start_half g r
owned_given {g = g} {r} {i} k e n o =
    let f = k.slots i n in let h = half_fits start_half g r i (f.extent o).mips (f.held o) in
    record { measured = k.measured; texture = n; flags = e; extent = refl; fits = f.extent o; held = h }

-- ---- What follows, of a stored texture
module _ (g : Stored) {t : List ℕ} {sh : Extent} (q : HalfGiven t g.i sh g.half g.table.now g.ranges.now) where
  -- for the transitions to it
  pub given_textured : HeldAs g sh
  given_textured =
      let n = q.texture in let y = q.fits in let e = q.extent in
      texture_held q.measured (record { texture = n; mip = y.mip; top = y.mips; some = y.layer; low = y.layers; own = λ o. e })
      e q.held

  -- for the functions that take it, by the flags p
  module _ {p : UsageFlags} (e : p ≡ flags_of t) where
    given_ready : GivenReady g sh p
    given_ready = record { texture = given_textured; flags = q.flags ∙ sym e }

    -- into a texture of a table with the same flags
    pub set_ready : {h : ℕ} {t' r : List ℕ} → TextureReady (numbers_of t') h t' r g.i sh → flags_of t' ≡ flags_of t
        → SetReady h t' r sh g p
    set_ready x same = record { texture = x; flags = e ∙ sym same; given = given_ready }

    -- into what a half holds
    pub merge_ready : {h : ℕ} {r : List ℕ} → TextureHeld (numbers_of t) h t r g.i sh → MergeReady h t r sh g p
    merge_ready {h} x = record {
      tiled = x.tiled;
      plain = λ c.
          let w : get_or g.table.now complex_at 0 ≡ get_or t complex_at 0 = ap (λ (y : UsageFlags). y.complex) q.flags in
          let s = q.held.state (λ z. c (z ∙ w ∙ sym (ap (λ (y : UsageFlags). y.complex) e))) in
          union_not_bit (get_or t (h + g.i) 0) (word_of g) (get_or t complex_at 0) s.state.nonzero (rw w at s.state.plain);
    }

    -- into both halves of a tracker's texture
    pub given_update : {s z : List ℕ} → TextureHeld (numbers_of t) start_half t s g.i sh → TextureHeld (numbers_of t) end_half t z g.i sh
        → UpdateFromReady t s z sh g p
    given_update x y = record { start = x; end = y; flags = e; given = given_ready }

-- ---- Index i, where the set with the table g may own a texture: there one is ready for it, and it is given
pub record WhereOwned (g : List ℕ) (i : ℕ) (Ready Gives : Type 0) : Type 0 where
  pub index : i < table_indices
  pub ready : owned_of g i ≡ true → Ready
  pub given : owned_of g i ≡ true → Gives

-- it owns one, by its word
module _ (g : List ℕ) {i : ℕ} (own : get_or g (owned_at i) 0 ≡ 0 → ⊥) where
  pub where_owned : {Ready Gives : Type 0} → WhereOwned g i Ready Gives → Ready × Gives
  where_owned w = let o = word_owned g i own in (w.ready o, w.given o)

  -- so what is of i is of what it owns
  pub only_owned_lem : (j : ℕ) → Only i j → OnlyOwned g i j
  only_owned_lem j e = (e, subst (λ (k : ℕ). owned_of g k ≡ true) (sym e) (word_owned g i own))
