-- The loops over the ranges of a given mip, and over the given mips, on both halves: what each lap needs, and where it leaves the storage.
use Rattle.model.specs.Prelude.{ℕ, suc, add-one, arith, sym, ap, subst, ◌∙◌, List, [], map, get_or, drop}
use Rattle.model.specs.{declared.{UsageFlags.UsageFlags, Range.Range}, Sets.Numbers, Representation.{Ends, select}, RangedStates.Tiles}
use Rattle.model.specs.{Texture.{Held, pieces_of}, RangeLaws.tiles_le}
use Rattle.std.specs.Prelude.{◌+◌, ◌≤◌, ◌<◌, ◌≡◌, ◌∷◌}
use Rattle.range_states.specs.View.{view, blank, decode}
use Rattle.set_storage.specs.declared.stored.{Run.Run, Stored.Stored}
use Rattle.set_storage.specs.Storage.{numbers_of, start_half, end_half, ends_of, layers_at, layer_limit_at, textures_at}
use Rattle.set_storage.specs.{Frames.{Measured, mips_top}, Stays.{BothFrame, both_then}, Stored.{ranges_of, mips_stored}}
use Rattle.set_storage.specs.Texture.{measured_low, numbers_low, flags_low}
use Rattle.texture_merge.specs.{Ready.Selects, Giving.{piece_on, pieces_from, GivenMip, GivenTexture}}
use Rattle.texture_update.specs.{Both.{BothBecome, low_of}, Pieces.{updated, updates, updates_append, EndsTiled, updated_tiled, PairReady}}
use Rattle.texture_merge.proofs.Given.{SameTexture, same_texture, range_none, range_next, range_inside, range_within, mips_none, mip_next}
use Rattle.texture_merge.proofs.Given.{mip_tiles, mip_within}

-- ---- The storage on the way: `left` is what is still to be done
pub record Taking (i : ℕ) (p : UsageFlags) (goal : Ends Held) (t₀ s₀ e₀ : List ℕ) (left : Ends Held → Ends Held)
    (t s e : List ℕ) : Type 0 where
  pub ends : left (ends_of (numbers_of t₀) t s e i) ≡ goal
  pub frame : BothFrame (numbers_of t₀) i t₀ s₀ e₀ t s e
  pub ready : PairReady t s e i p

-- a change of the texture that keeps its halves tiled leaves it ready for the next
module _ {t s e : List ℕ} {i : ℕ} {p : UsageFlags} {t' s' e' : List ℕ} (x : PairReady t s e i p)
    (f : BothFrame (numbers_of t) i t s e t' s' e') where
  low : (y : ℕ) → y < start_half → get_or t' y 0 ≡ get_or t y 0
  low = low_of x.starts x.ends x.texture f

  same_dims : numbers_of t' ≡ numbers_of t
  same_dims = numbers_low t t' low

  same : SameTexture t t' i
  same = same_texture t t' i (omega (arith, x.starts.textures, x.texture)) low

  ready_then : EndsTiled (get_or t (layers_at i) 0) (ends_of (numbers_of t) t' s' e' i) → PairReady t' s' e' i p
  ready_then k = record {
    starts = subst (λ (d : Numbers). Measured d start_half t' s') (sym same_dims) (measured_low low f.starts.long f.words.long x.starts);
    ends = subst (λ (d : Numbers). Measured d end_half t' e') (sym same_dims) (measured_low low f.ends.long f.words.long x.ends);
    texture = rw (low textures_at (omega arith)) x.texture;
    some = rw same.layers x.some;
    low = rw (same.layers, low layer_limit_at (omega arith)) x.low;
    flags = x.flags ∙ sym (flags_low t t' low);
    tiled = subst (λ (d : Numbers). EndsTiled (get_or t' (layers_at i) 0) (ends_of d t' s' e' i)) (sym same_dims)
        (subst (λ (w : ℕ). EndsTiled w (ends_of (numbers_of t) t' s' e' i)) (sym same.layers) k);
  }

module _ {i : ℕ} {p : UsageFlags} {goal : Ends Held} {t₀ s₀ e₀ : List ℕ} {left : Ends Held → Ends Held} {t s e : List ℕ}
    (x : PairReady t₀ s₀ e₀ i p) (w : Taking i p goal t₀ s₀ e₀ left t s e) where
  taking_turn : {t' s' e' : List ℕ} (f next : Ends Held → Ends Held) → ((y : Ends Held) → left y ≡ next (f y))
      → BothBecome (numbers_of t) i (f (ends_of (numbers_of t) t s e i)) t s e t' s' e'
      → ((y : Ends Held) → EndsTiled (get_or t (layers_at i) 0) y → EndsTiled (get_or t (layers_at i) 0) (f y))
      → Taking i p goal t₀ s₀ e₀ next t' s' e'
  taking_turn {t'} {s'} {e'} f next splits b k =
      let c : BothBecome (numbers_of t₀) i (f (ends_of (numbers_of t₀) t s e i)) t s e t' s' e' =
      subst (λ (d : Numbers). BothBecome d i (f (ends_of d t s e i)) t s e t' s' e') (same_dims x w.frame) b in
      record {
        ends = ap next c.ends ∙ sym (splits (ends_of (numbers_of t₀) t s e i)) ∙ w.ends;
        frame = both_then w.frame c.frame;
        ready = ready_then w.ready b.frame (subst (λ (y : Ends Held). EndsTiled (get_or t (layers_at i) 0) y) (sym b.ends)
            (k (ends_of (numbers_of t) t s e i) w.ready.tiled));
      }

  -- nothing is left
  taking_end : ((y : Ends Held) → left y ≡ y) → BothBecome (numbers_of t₀) i goal t₀ s₀ e₀ t s e
  taking_end z = record { ends = sym (z (ends_of (numbers_of t₀) t s e i)) ∙ w.ends; frame = w.frame }

-- ---- the ranges of one mip
module _ {i : ℕ} {p : UsageFlags} {t₀ s₀ e₀ : List ℕ} (x : PairReady t₀ s₀ e₀ i p) {mip : ℕ} {run : Run}
    (q : GivenMip t₀ i mip run) where
  abbrev rs : List Range
  rs = decode run.len run.records.now

  abbrev give : List Range → Ends Held → Ends Held
  give xs = updates p.unknown (map (piece_on mip) xs)

  abbrev pub RangeLap : ℕ → List ℕ → List ℕ → List ℕ → Type 0
  RangeLap k t s e = Taking i p (give rs (ends_of (numbers_of t₀) t₀ s₀ e₀ i)) t₀ s₀ e₀ (give (drop k rs)) t s e

  pub range_small : mip < 16
  range_small = omega (arith, q.mip, mips_top (numbers_of t₀) t₀ i, x.starts.mips)

  module _ {k : ℕ} {t s e : List ℕ} (w : RangeLap k t s e) where
    pub range_done : run.len ≤ k → BothBecome (numbers_of t₀) i (give rs (ends_of (numbers_of t₀) t₀ s₀ e₀ i)) t₀ s₀ e₀ t s e
    unfolding updates
    range_done b = taking_end x w (λ y. rw (range_none q k b))

    module _ (b : k < run.len) {r : Range} (z : r ≡ get_or (view run.records.now) k blank) where
      pub range_selects : Selects (numbers_of t) t i (select mip (suc mip) r.start r.end)
      range_selects = range_within q k b z (same x w.frame)

      splits : (y : Ends Held)
          → give (drop k rs) y ≡ give (drop (k + 1) rs) (updated p.unknown (piece_on mip r) y)
      unfolding updates
      splits y = rw (range_next q k b z)

      pub range_turn : {t' s' e' : List ℕ}
          → BothBecome (numbers_of t) i (updated p.unknown (piece_on mip r) (ends_of (numbers_of t) t s e i)) t s e t' s' e'
          → RangeLap (k + 1) t' s' e'
      range_turn v =
          taking_turn x w (updated p.unknown (piece_on mip r)) _ splits v
          (updated_tiled p.unknown (piece_on mip r) (get_or t (layers_at i) 0) (range_inside q k b z).0 range_selects.in_layers)

-- pieces within the layers keep the halves tiled
updates_tiled : (u m w : ℕ) (rs : List Range) (a : ℕ) (y : Ends Held) → Tiles a rs w → EndsTiled w y
    → EndsTiled w (updates u (map (piece_on m) rs) y)
unfolding updates
updates_tiled u m w [] a y t k = k
updates_tiled u m w (r ∷ rs) a y t k = updates_tiled u m w rs r.end (updated u (piece_on m r) y) t.2
    (updated_tiled u (piece_on m r) w (omega arith) (tiles_le rs r.end w t.2) y k)

-- ---- the mips of a texture
module _ {t₀ s₀ e₀ : List ℕ} {p : UsageFlags} {mips : ℕ} {g : Stored} (x : PairReady t₀ s₀ e₀ g.i p) (q : GivenTexture t₀ mips g) where
  abbrev gs : List (List Range)
  gs = mips_stored g

  abbrev pub MipLap : ℕ → List ℕ → List ℕ → List ℕ → Type 0
  MipLap k t s e = Taking g.i p (updates p.unknown (pieces_of gs) (ends_of (numbers_of t₀) t₀ s₀ e₀ g.i)) t₀ s₀ e₀
      (updates p.unknown (pieces_from k (drop k gs))) t s e

  module _ {k : ℕ} {t s e : List ℕ} (w : MipLap k t s e) where
    pub mip_done : mips ≤ k
        → BothBecome (numbers_of t₀) g.i (updates p.unknown (pieces_of gs) (ends_of (numbers_of t₀) t₀ s₀ e₀ g.i)) t₀ s₀ e₀ t s e
    unfolding updates
    mip_done b = taking_end x w (λ y. rw (mips_none q k b))

    module _ (b : k < mips) where
      pub mip_given : {run : Run} → decode run.len run.records.now ≡ ranges_of g k → GivenMip t g.i k run
      mip_given l = mip_within q k b l (same x w.frame)

    module _ (b : k < mips) {rs : List Range} (l : rs ≡ ranges_of g k) where
      abbrev one : Ends Held → Ends Held
      one = updates p.unknown (map (piece_on k) rs)

      mip_splits : (v : Ends Held)
          → updates p.unknown (pieces_from k (drop k gs)) v ≡ updates p.unknown (pieces_from (k + 1) (drop (k + 1) gs)) (one v)
      mip_splits v =
          rw (mip_next q k b l, add-one) (updates_append p.unknown (map (piece_on k) rs) (pieces_from (suc k) (drop (suc k) gs)) v)

      pub mip_turn : {t' s' e' : List ℕ}
          → BothBecome (numbers_of t) g.i (one (ends_of (numbers_of t) t s e g.i)) t s e t' s' e' → MipLap (k + 1) t' s' e'
      mip_turn v = taking_turn x w one _ mip_splits v (λ z j. updates_tiled p.unknown k (get_or t (layers_at g.i) 0) rs 0 z
          (rw (same x w.frame).layers (mip_tiles q k b l)) j)
