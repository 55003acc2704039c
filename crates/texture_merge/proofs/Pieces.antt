-- The loops over the ranges of a given mip, and over the given mips: what each lap needs, and where it leaves the storage.
use Rattle.model.specs.Prelude.{ℕ, suc, add-one, arith, sym, subst, None, Some, List, map, get_or, drop}
use Rattle.model.specs.Prelude.{Ok, Err, result_err}
use Rattle.model.specs.{declared.{Range.Range, InvalidUse.InvalidUse}, Base.{Stop, and_then, passes}}
use Rattle.model.specs.{Representation.select, Texture.pieces_of}
use Rattle.std.specs.Prelude.{◌+◌, ◌≤◌, ◌<◌, ◌≡◌}
use Rattle.range_states.specs.View.{view, blank, decode}
use Rattle.set_storage.specs.{declared.stored.{Run.Run, Stored.Stored}, Storage.{numbers_of, mips_of, layers_at}}
use Rattle.set_storage.specs.Stored.{ranges_of, mips_stored}
use Rattle.texture_merge.specs.{Walks.{Stopped, MipsWalked}, Ready.{ManyReady, HalfTiled, Selects}}
use Rattle.texture_merge.specs.Giving.{Does, KeepsTiled, passes_tiled, piece_on, pieces_from, passes_append, Giving, giving_start}
use Rattle.texture_merge.specs.Giving.{giving_word, giving_ready, giving_turn, giving_stop, giving_end, GivenMip, GivenTexture}
use Rattle.texture_merge.proofs.Given.{SameTexture, same_texture, range_next, range_inside, range_within, mips_none, mip_next}
use Rattle.texture_merge.proofs.Given.{mip_tiles, mip_within}

-- the texture at hand, where the loop has come to
module _ {h i : ℕ} {goal : Stop InvalidUse (List (List Range))} {t₀ r₀ t r : List ℕ} {left : List (List Range)
    → Stop InvalidUse (List (List Range))} (m : ManyReady (numbers_of t₀) h t₀ r₀ i (get_or t₀ (layers_at i) 0)) (g : Giving h i
    (get_or t₀ (layers_at i) 0) goal t₀ r₀ left t r) where
  same : SameTexture t₀ t i
  same = same_texture t₀ t i (omega (arith, m.measured.textures, m.texture)) (giving_word m g)

  pub lap_many : HalfTiled h t r i
  lap_many = subst (λ (y : ℕ). ManyReady (numbers_of t) h t r i y) (sym same.layers) (giving_ready m g)

-- ---- the ranges of one mip
module _ {h i : ℕ} {t₀ r₀ : List ℕ} (m : ManyReady (numbers_of t₀) h t₀ r₀ i (get_or t₀ (layers_at i) 0)) {mip : ℕ} {run : Run}
    (q : GivenMip t₀ i mip run) (f : Does) (law : KeepsTiled f) where
  abbrev rs : List Range
  rs = decode run.len run.records.now

  abbrev give : List Range → List (List Range) → Stop InvalidUse (List (List Range))
  give xs = passes f (map (piece_on mip) xs)

  abbrev pub RangeLap : ℕ → List ℕ → List ℕ → Type 0
  RangeLap k t r = Giving h i (get_or t₀ (layers_at i) 0) (give rs (mips_of (numbers_of t₀) h t₀ r₀ i)) t₀ r₀ (give (drop k rs)) t r

  pub range_start : RangeLap 0 t₀ r₀
  range_start = giving_start m (give rs)

  module _ {k : ℕ} {t r : List ℕ} (w : RangeLap k t r) where
    module _ (b : k < run.len) {x : Range} (e : x ≡ get_or (view run.records.now) k blank) where
      pub range_selects : Selects (numbers_of t) t i (select mip (suc mip) x.start x.end)
      range_selects = range_within q k b e (same m w)

      abbrev one : List (List Range) → Stop InvalidUse (List (List Range))
      one = f (piece_on mip x)

      splits : (ss : List (List Range))
          → give (drop k rs) ss ≡ and_then (one ss).conflict (one ss).value (give (drop (k + 1) rs) (one ss).value)
      splits ss = rw (range_next q k b e)

      module _ {z : Stopped} {t' r' : List ℕ} (s : MipsWalked (numbers_of t) h i (one (mips_of (numbers_of t) h t r i)) t r z t' r') where
        pub range_turn : result_err z ≡ None → RangeLap (k + 1) t' r'
        range_turn n =
            giving_turn m w one _ splits s n
            (law (piece_on mip x) (get_or t₀ (layers_at i) 0) (mips_of (numbers_of t₀) h t r i) (range_inside q k b e).0
            (range_inside q k b e).1 w.tiled)

        pub range_stop : (c : InvalidUse) → result_err z ≡ Some c
            → MipsWalked (numbers_of t₀) h i (give rs (mips_of (numbers_of t₀) h t₀ r₀ i)) t₀ r₀ (Err c) t' r'
        range_stop c n = giving_stop m w one (give (drop (k + 1) rs)) splits s c n

-- ---- the mips of a texture
module _ {h : ℕ} {t₀ r₀ : List ℕ} {mips : ℕ} {g : Stored} (m : HalfTiled h t₀ r₀ g.i) (q : GivenTexture t₀ mips g) (f : Does)
    (law : KeepsTiled f) where
  abbrev gs : List (List Range)
  gs = mips_stored g

  abbrev pub MipLap : ℕ → List ℕ → List ℕ → Type 0
  MipLap k t r = Giving h g.i (get_or t₀ (layers_at g.i) 0) (passes f (pieces_of gs) (mips_of (numbers_of t₀) h t₀ r₀ g.i)) t₀ r₀
      (passes f (pieces_from k (drop k gs))) t r

  pub mip_start_lem : MipLap 0 t₀ r₀
  mip_start_lem = giving_start m (passes f (pieces_from 0 gs))

  module _ {k : ℕ} {t r : List ℕ} (w : MipLap k t r) where
    pub mip_done : mips ≤ k
        → MipsWalked (numbers_of t₀) h g.i (passes f (pieces_of gs) (mips_of (numbers_of t₀) h t₀ r₀ g.i)) t₀ r₀ (Ok tt) t r
    mip_done b = giving_end m w (λ ss. rw (mips_none q k b))

    module _ (b : k < mips) where
      pub mip_given : {run : Run} → decode run.len run.records.now ≡ ranges_of g k → GivenMip t g.i k run
      mip_given l = mip_within q k b l (same m w)

    module _ (b : k < mips) {rs : List Range} (l : rs ≡ ranges_of g k) where
      abbrev whole : List (List Range) → Stop InvalidUse (List (List Range))
      whole = passes f (map (piece_on k) rs)

      mip_splits : (ss : List (List Range))
          → passes f (pieces_from k (drop k gs)) ss
          ≡ and_then (whole ss).conflict (whole ss).value (passes f (pieces_from (k + 1) (drop (k + 1) gs)) (whole ss).value)
      mip_splits ss = rw (mip_next q k b l, add-one) (passes_append f (map (piece_on k) rs)
          (pieces_from (suc k) (drop (suc k) gs)) ss)

      module _ {z : Stopped} {t' r' : List ℕ} (s : MipsWalked (numbers_of t) h g.i (whole (mips_of (numbers_of t) h t r g.i)) t r z t' r')
        where
          pub mip_turn : result_err z ≡ None → MipLap (k + 1) t' r'
          mip_turn n =
              giving_turn m w whole _ mip_splits s n
              (passes_tiled f law k (get_or t₀ (layers_at g.i) 0) rs 0
              (mips_of (numbers_of t₀) h t r g.i) (mip_tiles q k b l) w.tiled)

          pub mip_stop : (c : InvalidUse) → result_err z ≡ Some c
              → MipsWalked (numbers_of t₀) h g.i (passes f (pieces_of gs) (mips_of (numbers_of t₀) h t₀ r₀ g.i)) t₀ r₀ (Err c) t' r'
          mip_stop c n = giving_stop m w whole (passes f (pieces_from (k + 1) (drop (k + 1) gs))) mip_splits s c n
