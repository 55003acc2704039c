-- What is given to a texture, range by range and mip by mip, while it keeps its layers and its mips.
use Rattle.model.specs.Prelude.{ℕ, zero, suc, add-one, arith, sym, ap, subst, ◌∙◌, List, [], length, get_or, drop, drop_of_length-le}
use Rattle.model.specs.Prelude.{drop-cons, get_or-take, length-take-le}
use Rattle.model.specs.{declared.Range.Range, Sets.Numbers, Representation.select, RangedStates.Tiles, RangeLaws.tiles_le}
use Rattle.std.specs.Prelude.{◌+◌, ◌≤◌, ◌<◌, ◌≡◌, ◌∷◌}
use Rattle.range_states.specs.View.{view, blank, decode, view_long}
use Rattle.set_storage.specs.declared.stored.{Run.Run, Stored.Stored}
use Rattle.set_storage.specs.Storage.{numbers_of, start_half, table_indices, mips_in, layers_at, mips_at}
use Rattle.set_storage.specs.{Frames.{mips_same, mips_top, mip_at, mips_long}, Texture.{numbers_low, tiles_few}}
use Rattle.set_storage.specs.Stored.{ranges_of, mips_stored, ReadyUpTo}
use Rattle.texture_merge.specs.{Ready.Selects, Giving.{GivenMip, GivenTexture}}
use Rattle.range_states.proofs.Inserting.{next_is}

-- a table in which texture i has as many layers and mips as in another
pub record SameTexture (t₀ t : List ℕ) (i : ℕ) : Type 0 where
  pub layers : get_or t (layers_at i) 0 ≡ get_or t₀ (layers_at i) 0
  pub mips : mips_in (numbers_of t) t i ≡ mips_in (numbers_of t₀) t₀ i

pub same_texture : (t₀ t : List ℕ) (i : ℕ) → i < table_indices
    → ((x : ℕ) → x < start_half → get_or t x 0 ≡ get_or t₀ x 0) → SameTexture t₀ t i
same_texture t₀ t i h low = record {
  layers = low (layers_at i) (omega arith);
  mips = ap (λ (d : Numbers). mips_in d t i) (numbers_low t₀ t low) ∙ mips_same (numbers_of t₀) t₀ t i (low (mips_at i) (omega arith));
}

-- a range of a tiling lies within its layers
tiles_at : (s : List Range) (a w k : ℕ) → Tiles a s w → k < length s
    → ((get_or s k blank).start < (get_or s k blank).end) × ((get_or s k blank).end ≤ w)
tiles_at [] a w k t h = absurd (omega arith)
tiles_at (r ∷ s) a w zero t h = (omega arith, tiles_le s r.end w t.2)
tiles_at (r ∷ s) a w (suc k) t h = tiles_at s r.end w k t.2 (omega arith)

-- ---- the ranges of a given mip
module _ {t₀ : List ℕ} {i mip : ℕ} {run : Run} (q : GivenMip t₀ i mip run) where
  abbrev rs : List Range
  rs = decode run.len run.records.now

  long : length rs ≡ run.len
  long = length-take-le run.len (view run.records.now) (view_long run.records.now run.len run.inside)

  pub range_none : (k : ℕ) → run.len ≤ k → drop k rs ≡ []
  range_none k b = drop_of_length-le rs {i = k} (omega (arith, long))

  module _ (k : ℕ) (b : k < run.len) {x : Range} (e : x ≡ get_or (view run.records.now) k blank) where
    pub range_next : drop k rs ≡ x ∷ drop (k + 1) rs
    range_next = next_is run.records.now run.len k x run.inside b e

    pub range_inside : (x.start < x.end) × (x.end ≤ get_or t₀ (layers_at i) 0)
    range_inside =
        subst (λ (y : Range). (y.start < y.end) × (y.end ≤ get_or t₀ (layers_at i) 0))
        (get_or-take run.len (view run.records.now) k blank b ∙ sym e)
        (tiles_at rs 0 (get_or t₀ (layers_at i) 0) k q.tiled (omega (arith, long)))

    pub range_within : {t : List ℕ} → SameTexture t₀ t i → Selects (numbers_of t) t i (select mip (suc mip) x.start x.end)
    range_within s = record {
      mips = omega arith;
      layers = range_inside.0;
      in_mips = rw s.mips (omega (arith, q.mip));
      in_layers = rw s.layers range_inside.1;
    }

-- ---- the mips of a given texture
module _ {t₀ : List ℕ} {mips : ℕ} {g : Stored} (q : GivenTexture t₀ mips g) where
  many : length (mips_stored g) ≡ mips
  many = mips_long (numbers_of g.table.now) g.half g.table.now g.ranges.now g.i ∙ sym q.same

  pub mips_none : (k : ℕ) → mips ≤ k → drop k (mips_stored g) ≡ []
  mips_none k b = drop_of_length-le (mips_stored g) {i = k} (omega (arith, many))

  module _ (k : ℕ) (b : k < mips) where
    pub mip_ready : ReadyUpTo g (suc k)
    mip_ready = record {
      measured = q.many.measured;
      texture = q.many.texture;
      top = omega (arith, q.same, mips_top (numbers_of g.table.now) g.table.now g.i, q.many.measured.mips);
      inside = omega (arith, q.same);
      few = λ j a. tiles_few (numbers_of g.table.now) g.half g.table.now g.ranges.now g.i j (get_or t₀ (layers_at g.i) 0) q.many.some
          (q.many.tiled j (omega (arith, q.same)));
    }

    module _ {rs : List Range} (f : rs ≡ ranges_of g k) where
      pub mip_next : drop k (mips_stored g) ≡ rs ∷ drop (k + 1) (mips_stored g)
      mip_next =
          let e : get_or (mips_stored g) k [] ≡ rs =
          mip_at (numbers_of g.table.now) g.half g.table.now g.ranges.now g.i k [] (rw q.same at b) ∙ sym f in
          rw (add-one, ← e) (drop-cons (mips_stored g) k [] (omega (arith, many)))

      pub mip_tiles : Tiles 0 rs (get_or t₀ (layers_at g.i) 0)
      mip_tiles = rw f (q.many.tiled k (rw q.same at b))

    pub mip_within : {run : Run} → decode run.len run.records.now ≡ ranges_of g k → {t : List ℕ} → SameTexture t₀ t g.i
        → GivenMip t g.i k run
    mip_within f s = record { mip = rw s.mips (rw q.own at b); tiled = rw s.layers (mip_tiles f) }
