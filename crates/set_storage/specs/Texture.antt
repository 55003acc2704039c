-- A texture of a set in one half of its storage: what every function over it may count on, and what a change elsewhere leaves of that.
use Rattle.std.specs.Prelude.{◌≤◌, ◌<◌, ◌≡◌}
use Rattle.model.specs.Prelude.{ℕ, min-eq_left, arith, refl, sym, subst, ◌∙◌, List, [], length, get_or, lt-leb}
use Rattle.model.specs.{declared.Extent.Extent, Sets.Numbers, RangedStates.Tiles, BoolLaws.by_lt}
use Rattle.set_storage.specs.Storage.{numbers_of, flags_of, start_half, mips_in, mip_of, count_at, mips_at, layers_at, state_at, complex_at}
use Rattle.set_storage.specs.Storage.{exclusive_at, layer_limit_at, mip_limit_at, textures_at, uninitialized_at, unknown_at}
use Rattle.set_storage.specs.{Stays.HalfFrame, Frames.Measured, Slots.half_low}

-- texture i, owned or about to be: its words tell the extent sh, and there is room for its ranges
pub record TextureReady (d : Numbers) (h : ℕ) (t r : List ℕ) (i : ℕ) (sh : Extent) : Type 0 where
  pub measured : Measured d h t r
  pub index : i < d.textures
  pub mips : get_or t (mips_at i) 0 ≡ sh.mips
  pub layers : get_or t (layers_at i) 0 ≡ sh.layers
  pub mip : 0 < sh.mips
  pub top : sh.mips ≤ d.mips
  pub some : 0 < sh.layers
  pub low : sh.layers ≤ d.layers

-- where its word tells COMPLEX, the ranges of each mip tile the layers
abbrev pub RangesTile : Numbers → ℕ → List ℕ → List ℕ → ℕ → Extent → Type 0
RangesTile d h t r i sh = get_or t (state_at h i) 0 ≡ get_or t complex_at 0 → (k : ℕ) → k < sh.mips → Tiles 0 (mip_of d h t r i k) sh.layers

-- texture i as the half holds it; the counts and the ranges of one that is Single may be any numbers
pub record TextureHeld (d : Numbers) (h : ℕ) (t r : List ℕ) (i : ℕ) (sh : Extent) : Type 0 where
  pub ready : TextureReady d h t r i sh
  pub tiled : RangesTile d h t r i sh

-- ranges that tile the layers are no more than there is room for
pub tiles_few : (d : Numbers) (h : ℕ) (t r : List ℕ) (i k w : ℕ) → 0 < w → Tiles 0 (mip_of d h t r i k) w
    → get_or t (count_at h i k) 0 ≤ d.layers
unfolding mip_of
tiles_few d h t r i k w Some f =
    by_lt d.layers (get_or t (count_at h i k) 0)
    (λ l. let z : Tiles 0 [] w = rw (lt-leb (get_or t (count_at h i k) 0) d.layers l) at f in absurd (omega arith))
    (λ l. l)

-- ---- Where the words below the halves stay, so do N, M and W and the flags
module _ (t₀ t : List ℕ) (low : (x : ℕ) → x < start_half → get_or t x 0 ≡ get_or t₀ x 0) where
  pub numbers_low : numbers_of t ≡ numbers_of t₀
  numbers_low = rw (low textures_at (omega arith), low mip_limit_at (omega arith), low layer_limit_at (omega arith))

  pub flags_low : flags_of t ≡ flags_of t₀
  flags_low = rw (
    low exclusive_at (omega arith),
    low uninitialized_at (omega arith),
    low complex_at (omega arith),
    low unknown_at (omega arith),
  )

-- and what is measured, where the lengths stay too, and a texture
module _ {h : ℕ} {t₀ r₀ t r : List ℕ} (low : (x : ℕ) → x < start_half → get_or t x 0 ≡ get_or t₀ x 0) (long : length r ≡ length r₀)
    (table : length t ≡ length t₀) where
  pub measured_low : {d : Numbers} → Measured d h t₀ r₀ → Measured d h t r
  measured_low s = record {
    dims = numbers_low t₀ t low ∙ s.dims;
    textures = s.textures;
    mips = s.mips;
    some = s.some;
    layers = s.layers;
    fits = rw long s.fits;
    half = s.half;
    table = table ∙ s.table;
  }

  pub texture_low : {d : Numbers} {i : ℕ} {sh : Extent} → TextureReady d h t₀ r₀ i sh → TextureReady d h t r i sh
  texture_low {d} {i} x = record {
    measured = measured_low x.measured;
    index = x.index;
    mips = low (mips_at i) (omega (arith, x.measured.textures, x.index)) ∙ x.mips;
    layers = low (layers_at i) (omega (arith, x.measured.textures, x.index)) ∙ x.layers;
    mip = x.mip;
    top = x.top;
    some = x.some;
    low = x.low;
  }

module _ {d : Numbers} {h : ℕ} {t r : List ℕ} {i : ℕ} {sh : Extent} (x : TextureReady d h t r i sh) where
  -- the mips that are read are those that the extent tells
  pub texture_mips : mips_in d t i ≡ sh.mips
  unfolding mips_in
  texture_mips = rw x.mips (min-eq_left x.top)

  -- the texture, by the numbers of its own table
  pub texture_dims : TextureReady (numbers_of t) h t r i sh
  texture_dims = subst (λ (n : Numbers). TextureReady n h t r i sh) (sym x.measured.dims) x

  -- after a step on this half, with ranges r, and after one on the half g, with ranges that are lent apart
  pub texture_then : {t' r' : List ℕ} → HalfFrame d h i t r t' r' → TextureReady d h t' r' i sh
  texture_then f = texture_low (half_low x.measured x.index f) f.ranges.long f.words.long x

  pub texture_away : {g : ℕ} {s t' s' : List ℕ} → Measured d g t s → HalfFrame d g i t s t' s' → TextureReady d h t' r i sh
  texture_away m f = texture_low (half_low m x.index f) refl f.words.long x
