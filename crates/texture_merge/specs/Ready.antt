-- What the code needs of a mip, or of all mips of a texture, to change it in place, and what it leaves: the part of the ranges that is lent
-- on.
use Rattle.model.specs.Prelude.{ℕ, arith, sym, ap, subst, ◌∙◌, List, [], length, get_or, set, take, drop, get_or-replicate}
use Rattle.model.specs.declared.{Extent.Extent, Range.Range, Selector.Selector}
use Rattle.model.specs.{Representation.{mip_start, mip_end, layer_start, layer_end}, Sets.Numbers}
use Rattle.model.specs.{RangedStates.{range, coalesce, paint, Tiles}, Texture.{on_mips, fresh_mips}, CheckLaws.SelectorWithin}
use Rattle.model.specs.RangeLaws.{tiles_one}
use Rattle.std.specs.Prelude.{◌+◌, ◌*◌, ◌-◌, ◌≤◌, ◌<◌, ◌≡◌, ◌∷◌, ◌++◌}
use Rattle.range_states.specs.View.{decode}
use Rattle.range_isolate.specs.{Isolation.IsolateRoom, Tiling.isolate_room}
use Rattle.set_storage.specs.{declared.Located.Located, Part.{base_of, part_of, part_length}}
use Rattle.set_storage.specs.Storage.{numbers_of, mips_in, count_at, mip_part, mip_of, mips_of, end_half, complex_at, layer_limit_at}
use Rattle.set_storage.specs.{Storage.{layers_at, mip_limit_at}, Frames.{Measured, MipsBecome, MipReady, mip_is, mip_at, mip_put, room_of}}
use Rattle.set_storage.specs.{Locate.LocatedAt, Stored.lent_part, Texture.{TextureReady, TextureHeld, tiles_few, texture_mips}}

-- the mips once what a selector names took a state: the others stay, and each of these is coalesced
abbrev pub updated_mips : ℕ → Selector → ℕ → List (List Range) → List (List Range)
updated_mips u q st ss = on_mips q (λ s. coalesce (paint u (layer_start q) (layer_end q) st s)) 0 ss

-- ---- A mip whose ranges tile its layers
pub record MipTiled (d : Numbers) (h : ℕ) (t r : List ℕ) (i m layers : ℕ) : Type 0 where
  pub ready : MipReady d h t r i m
  pub some : 0 < layers
  pub low : layers ≤ d.layers
  pub tiled : Tiles 0 (mip_of d h t r i m) layers

-- its count is not past the room
pub tiled_few : {d : Numbers} {h i m layers : ℕ} {t r : List ℕ} → MipTiled d h t r i m layers → get_or t (count_at h i m) 0 ≤ d.layers
tiled_few {d} {h} {i} {m} {layers} {t} {r} q = tiles_few d h t r i m layers q.some q.tiled

pub tiled_is : {d : Numbers} {h i m layers : ℕ} {t r : List ℕ} → MipTiled d h t r i m layers
    → mip_of d h t r i m ≡ decode (get_or t (count_at h i m) 0) (mip_part d r i m)
tiled_is {d} {h} {i} {m} {layers} {t} {r} q = mip_is d h t r i m (tiled_few q)

-- ---- The part that is lent on, `ranges[x.base..x.end]`: the ranges with p in its place
abbrev pub put_back : Located → List ℕ → List ℕ → List ℕ
put_back x r p = take x.base r ++ (p ++ drop (x.end - x.base) (drop x.base r))

module _ {t r : List ℕ} {h i m : ℕ} (q : MipReady (numbers_of t) h t r i m) {x : Located} (l : LocatedAt t h i m (length r) x) where
  pub part_is : lent_part x r ≡ mip_part (numbers_of t) r i m
  unfolding part_of
  part_is = rw (l.size, l.base)

  pub part_long : length (lent_part x r) ≡ 3 * get_or t layer_limit_at 0
  part_long = ap length part_is
      ∙ part_length r (base_of i m (get_or t mip_limit_at 0)
      (get_or t layer_limit_at 0)) (3 * get_or t layer_limit_at 0) (room_of q.measured i m
      q.texture (omega (arith, q.mip, q.top)))

  -- what a function leaves in the part, n ranges, is the texture's mip m
  pub mip_left : (n : ℕ) (p : List ℕ) (xs : List Range) → length p ≡ length (lent_part x r)
      → 3 * n ≤ length (lent_part x r) → decode n p ≡ xs
      → MipsBecome (numbers_of t) h i (set (mips_of (numbers_of t) h t r i) m xs) t r (set t (count_at h i m) n) (put_back x r p)
  mip_left n p xs long fits seen = mip_put q x.base (x.end - x.base) n p xs l.base l.size long
      (omega (arith, part_long, l.size)) seen

  -- a count of ranges that fit is one that can be written
  pub count_fits : (n : ℕ) → 3 * n ≤ length (lent_part x r) → (h ≤ end_half) × ((i < 64) × ((m < 16) × (n < 4294967296)))
  count_fits n f = (
    q.measured.half.1,
    (
      omega (arith, q.texture, q.measured.textures),
      (omega (arith, q.mip, q.top, q.measured.mips), omega (arith, part_long, q.measured.layers)),
    ),
  )

-- the part of a tiled mip, as the functions on one mip see it
module _ {t r : List ℕ} {h i m layers : ℕ} (q : MipTiled (numbers_of t) h t r i m layers) {x : Located}
    (l : LocatedAt t h i m (length r) x) where
  pub lent_is : decode x.len (lent_part x r) ≡ mip_of (numbers_of t) h t r i m
  lent_is = rw (l.len, part_is q.ready l) (sym (tiled_is q))

  pub lent_fits : 3 * x.len ≤ length (lent_part x r)
  lent_fits = let f = tiled_few q in omega (arith, part_long q.ready l, l.len)

  pub lent_layers : 3 * layers ≤ length (lent_part x r)
  lent_layers = omega (arith, part_long q.ready l, q.low)

  pub lent_tiled : Tiles 0 (decode x.len (lent_part x r)) layers
  lent_tiled = subst (λ (s : List Range). Tiles 0 s layers) (sym lent_is) q.tiled

  pub lent_room : (a e u : ℕ) → a < e → e ≤ layers → IsolateRoom (lent_part x r) x.len a e u
  lent_room a e u ae el = isolate_room (lent_part x r) x.len a e u layers lent_layers lent_fits lent_tiled ae el

-- ---- All mips of a texture that is Many in the half h
pub record ManyReady (d : Numbers) (h : ℕ) (t r : List ℕ) (i layers : ℕ) : Type 0 where
  pub measured : Measured d h t r
  pub texture : i < d.textures
  pub some : 0 < layers
  pub low : layers ≤ d.layers
  pub tiled : (k : ℕ) → k < mips_in d t i → Tiles 0 (mip_of d h t r i k) layers

-- they tile as many layers as the table says that it has
abbrev pub HalfTiled : ℕ → List ℕ → List ℕ → ℕ → Type 0
HalfTiled h t r i = ManyReady (numbers_of t) h t r i (get_or t (layers_at i) 0)

-- as the half holds it, where its word tells COMPLEX; w is how many layers it has
pub many_of : {d : Numbers} {h i : ℕ} {sh : Extent} {t r : List ℕ} → TextureHeld d h t r i sh → get_or t (h + i) 0 ≡ get_or t complex_at 0
    → (w : ℕ) → w ≡ sh.layers → ManyReady d h t r i w
many_of x c w e =
    let y = x.ready in
    record {
      measured = y.measured;
      texture = y.index;
      some = rw e y.some;
      low = rw e y.low;
      tiled = λ k l. rw e (x.tiled c k (rw (texture_mips y) at l));
    }

-- ---- A piece with the layers from a to e, on a tiled mip of texture i
pub record PieceReady (h : ℕ) (t r : List ℕ) (i m a e : ℕ) : Type 0 where
  pub tiled : MipTiled (numbers_of t) h t r i m (get_or t (layers_at i) 0)
  pub order : a < e
  pub inside : e ≤ get_or t (layers_at i) 0

-- ---- A selector that the checks 16 to 19 and 11 pass, on texture i
pub record Selects (d : Numbers) (t : List ℕ) (i : ℕ) (q : Selector) : Type 0 where
  pub mips : mip_start q < mip_end q
  pub layers : layer_start q < layer_end q
  pub in_mips : mip_end q ≤ mips_in d t i
  pub in_layers : layer_end q ≤ get_or t (layers_at i) 0

-- the mips of texture i, all of them
pub record EveryReady (d : Numbers) (h : ℕ) (t r : List ℕ) (i mips : ℕ) : Type 0 where
  pub measured : Measured d h t r
  pub texture : i < d.textures
  pub all : mips ≡ mips_in d t i

module _ {d : Numbers} {h i : ℕ} {sh : Extent} {t r : List ℕ} (x : TextureReady d h t r i sh) where
  pub texture_selects : {q : Selector} → SelectorWithin sh q → Selects d t i q
  texture_selects w = record
      { mips = w.order; layers = w.span; in_mips = rw (texture_mips x) w.in_mips; in_layers = rw x.layers w.in_layers }

  pub texture_every : EveryReady d h t r i sh.mips
  texture_every = record { measured = x.measured; texture = x.index; all = sym (texture_mips x) }

  -- mips that were made anew tile their layers
  pub fresh_many : (st : ℕ) → mips_of d h t r i ≡ fresh_mips sh st → (w : ℕ) → w ≡ sh.layers → ManyReady d h t r i w
  fresh_many st e w z = record {
    measured = x.measured;
    texture = x.index;
    some = rw z x.some;
    low = rw z x.low;
    tiled = λ k l.
        let f : mip_of d h t r i k ≡ range 0 sh.layers st ∷ [] = sym (mip_at d h t r i k [] l)
        ∙ rw e (get_or-replicate sh.mips k (range 0 sh.layers st ∷ []) [] (rw (texture_mips x) at l)) in
        rw z (subst (λ (s : List Range). Tiles 0 s sh.layers) (sym f) (tiles_one sh.layers st x.some));
  }
