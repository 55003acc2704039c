-- One lap of a loop over the mips of a texture, with any step: what the step needs holds, and what it leaves is the next place of the loop.
use Rattle.model.specs.Prelude.{ℕ, arith, refl, sym, subst, ◌∙◌, Option, None, Some, List, get_or, set, length, replicate}
use Rattle.model.specs.Prelude.{drop_of_length-le}
use Rattle.model.specs.Prelude.{Ok, Err}
use Rattle.model.specs.{declared.{Range.Range, Selector.Selector, InvalidUse.InvalidUse}, Base.{Stop, fine, walk}, Texture.on_mips}
use Rattle.model.specs.{Sets.Numbers, Representation.{mip_start, mip_end, layer_start, layer_end}, RangedStates.Tiles}
use Rattle.std.specs.Prelude.{◌+◌, ◌≤◌, ◌<◌, ◌≡◌}
use Rattle.range_states.specs.View.{decode}
use Rattle.texture_mips.specs.{declared.uniting.Merged.Merged, Paint.Leaves, Merge.{Walked, conflict_of}}
use Rattle.set_storage.specs.{declared.Located.Located, Locate.LocatedAt, Stored.lent_part}
use Rattle.set_storage.specs.Storage.{numbers_of, mips_in, mip_of, mips_of, layers_at, count_at}
use Rattle.set_storage.specs.Frames.{Measured, MipsBecome, MipReady, mips_long, mips_top}
use Rattle.texture_merge.specs.Walking.{walk_rest, among, among_in, among_under, among_over, walk_edits, walk_fresh}
use Rattle.texture_merge.specs.Walks.{MipWalk, MipWalked, MipsWalked, walk_from, walk_measured, walk_word, walk_count, walk_ready}
use Rattle.texture_merge.specs.Ready.{put_back, lent_is, mip_left}
use Rattle.texture_merge.specs.{Walks.{walk_here, walk_on, walk_stopped, walk_done}, Ready.{MipTiled, ManyReady, PieceReady, Selects}}

pub lap_small : {h i m layers : ℕ} {t r : List ℕ} → ManyReady (numbers_of t) h t r i layers → m < mips_in (numbers_of t) t i → m < 16
lap_small {h} {i} {m} {layers} {t} {r} q b = omega (arith, mips_top (numbers_of t) t i, q.measured.mips)

module _ {f : ℕ → List Range → Stop InvalidUse (List Range)} {h i : ℕ} {t₀ r₀ : List ℕ} {m : ℕ} {t r : List ℕ}
    (s : Measured (numbers_of t₀) h t₀ r₀) (hi : i < (numbers_of t₀).textures) (w : MipWalk f (numbers_of t₀) h i t₀ r₀ m t r) where
  dims : numbers_of t ≡ numbers_of t₀
  dims = (walk_measured f (numbers_of t₀) h i t₀ r₀ s hi w).dims

  module _ (b : m < mips_in (numbers_of t₀) t₀ i) where
    pub lap_ready : MipReady (numbers_of t) h t r i m
    lap_ready = subst (λ (x : Numbers). MipReady x h t r i m) (sym dims) (walk_ready f (numbers_of t₀) h i t₀ r₀ s hi w b)

    -- the step that the code takes is the walk's
    module _ (g : List Range → Stop InvalidUse (List Range)) (same : (x : List Range) → g x ≡ f m x) {c : Option InvalidUse}
        {t' r' : List ℕ} (k : MipWalked (numbers_of t) h i m (g (mip_of (numbers_of t) h t r i m)) c t r t' r') where
      step : MipWalked (numbers_of t₀) h i m (f m (mip_of (numbers_of t₀) h t r i m)) c t r t' r'
      step =
          subst (λ (x : Stop InvalidUse (List Range)). MipWalked (numbers_of t₀) h i m x c t r t' r')
          (same (mip_of (numbers_of t₀) h t r i m))
          (subst (λ (x : Numbers). MipWalked x h i m (g (mip_of x h t r i m)) c t r t' r') dims k)

      pub lap_on : c ≡ None → MipWalk f (numbers_of t₀) h i t₀ r₀ (m + 1) t' r'
      lap_on e = walk_on f (numbers_of t₀) h i t₀ r₀ s hi w b step e

      pub lap_stop : (x : InvalidUse) → c ≡ Some x
          → MipsWalked (numbers_of t₀) h i (walk f 0 (mips_of (numbers_of t₀) h t₀ r₀ i)) t₀ r₀ (Err x) t' r'
      lap_stop x e = walk_stopped f (numbers_of t₀) h i t₀ r₀ s hi w b step x e

  -- nothing is left after the last mip
  pub lap_end : mips_in (numbers_of t₀) t₀ i ≤ m
      → MipsWalked (numbers_of t₀) h i (walk f 0 (mips_of (numbers_of t₀) h t₀ r₀ i)) t₀ r₀ (Ok tt) t r
  lap_end b =
      let n = mips_long (numbers_of t₀) h t r i in let k = walk_count f (numbers_of t₀) h i t₀ r₀ s hi w in
      walk_done f (numbers_of t₀) h i t₀ r₀ s hi w (rw (drop_of_length-le (mips_of (numbers_of t₀) h t r i) {i = m} (omega arith)))

-- every mip was made anew
pub fresh_end : {v : List Range} {h i mips m : ℕ} {t₀ r₀ t r : List ℕ} → Measured (numbers_of t₀) h t₀ r₀ → i < (numbers_of t₀).textures
    → MipWalk (λ k s. fine v) (numbers_of t₀) h i t₀ r₀ m t r → mips ≡ mips_in (numbers_of t₀) t₀ i → mips ≤ m
    → MipsBecome (numbers_of t₀) h i (replicate mips v) t₀ r₀ t r
fresh_end {v} {h} {i} {mips} {m} {t₀} {r₀} {t} {r} s hi w e b =
    subst (λ (x : Stop InvalidUse (List (List Range))). MipsBecome (numbers_of t₀) h i x.value t₀ r₀ t r)
    (walk_fresh v 0 mips (mips_of (numbers_of t₀) h t₀ r₀ i) (mips_long (numbers_of t₀) h t₀ r₀ i ∙ sym e))
    (lap_end s hi w (rw e at b)).into

-- the next mip of a texture whose mips tile their layers
pub lap_tiled : {f : ℕ → List Range → Stop InvalidUse (List Range)} {h i : ℕ} {t₀ r₀ : List ℕ} {m : ℕ} {t r : List ℕ}
    → ManyReady (numbers_of t₀) h t₀ r₀ i (get_or t₀ (layers_at i) 0) → MipWalk f (numbers_of t₀) h i t₀ r₀ m t r
    → m < mips_in (numbers_of t₀) t₀ i → MipTiled (numbers_of t) h t r i m (get_or t (layers_at i) 0)
lap_tiled {f} {h} {i} {t₀} {r₀} {m} {t} {r} q w b =
    let l = walk_word f (numbers_of t₀) h i t₀ r₀ q.measured q.texture w (layers_at i) (omega (arith, q.measured.textures, q.texture)) in
    subst (λ (x : Numbers). MipTiled x h t r i m (get_or t (layers_at i) 0)) (sym (dims q.measured q.texture w))
    (subst (λ (x : ℕ). MipTiled (numbers_of t₀) h t r i m x) (sym l) (record {
      ready = walk_ready f (numbers_of t₀) h i t₀ r₀ q.measured q.texture w b;
      some = q.some;
      low = q.low;
      tiled = subst (λ (x : List Range). Tiles 0 x (get_or t₀ (layers_at i) 0))
          (sym (walk_here f (numbers_of t₀) h i t₀ r₀ q.measured q.texture w b)) (q.tiled m b);
    }))

-- what a merge leaves in the part that was lent is the mip, once the count is written
pub mip_merged : {t r : List ℕ} {h i m layers new : ℕ} (q : MipTiled (numbers_of t) h t r i m layers) {x : Located}
    (k : LocatedAt t h i m (length r) x) (f : ℕ → List Range → Stop InvalidUse (List Range)) {z : Merged} {l : List ℕ}
    → Walked new (λ j. f j (decode x.len (lent_part x r))) (lent_part x r) z l
    → MipWalked (numbers_of t) h i m (f m (mip_of (numbers_of t) h t r i m)) (conflict_of m new z.met) t r
    (set t (count_at h i m) z.len) (put_back x r l)
mip_merged {m = m} q {x} k f {z} {l} u = record {
  conflict = rw (lent_is q k) at (u.conflict m);
  into = mip_left q.ready k z.len l _ u.long u.fits (rw (lent_is q k) at (u.seen m));
}

-- ---- A loop over the mips of a selector: m is the next
pub record SelectorLap (q : Selector) (f : ℕ → List Range → Stop InvalidUse (List Range)) (h i : ℕ) (t₀ r₀ : List ℕ)
    (m : ℕ) (t r : List ℕ) : Type 0 where
  pub from : mip_start q ≤ m
  pub upto : m ≤ mip_end q
  pub walk : MipWalk (among q f) (numbers_of t₀) h i t₀ r₀ m t r

module _ {q : Selector} {h i : ℕ} {t₀ r₀ : List ℕ} (p : ManyReady (numbers_of t₀) h t₀ r₀ i (get_or t₀ (layers_at i) 0))
    (s : Selects (numbers_of t₀) t₀ i q) where
  pub selector_start : (f : ℕ → List Range → Stop InvalidUse (List Range)) → SelectorLap q f h i t₀ r₀ (mip_start q) t₀ r₀
  selector_start f = record {
    from = omega arith;
    upto = omega (arith, s.mips);
    walk = walk_from (among q f) (numbers_of t₀) h i t₀ r₀ (mip_start q) (omega (arith, s.mips, s.in_mips))
        (λ j x a. among_under q f j x a);
  }

  module _ {f : ℕ → List Range → Stop InvalidUse (List Range)} {m : ℕ} {t r : List ℕ} (w : SelectorLap q f h i t₀ r₀ m t r) where
    module _ (b : m < mip_end q) where
      inside : m < mips_in (numbers_of t₀) t₀ i
      inside = omega (arith, s.in_mips)

      pub selector_small : m < 16
      selector_small = lap_small p inside

      pub selector_piece : PieceReady h t r i m (layer_start q) (layer_end q)
      selector_piece =
          let l = walk_word (among q f) (numbers_of t₀) h i t₀ r₀ p.measured p.texture w.walk (layers_at i)
          (omega (arith, p.measured.textures, p.texture)) in
          record { tiled = lap_tiled p w.walk inside; order = s.layers; inside = rw l s.in_layers }

      module _ {c : Option InvalidUse} {t' r' : List ℕ}
          (k : MipWalked (numbers_of t) h i m (f m (mip_of (numbers_of t) h t r i m)) c t r t' r') where
        pub selector_turn : c ≡ None → SelectorLap q f h i t₀ r₀ (m + 1) t' r'
        selector_turn e = record {
          from = omega (arith, w.from);
          upto = omega arith;
          walk = lap_on p.measured p.texture w.walk inside (f m) (λ x. sym (among_in q f m x w.from b)) k e;
        }

        pub selector_stop : (x : InvalidUse) → c ≡ Some x
            → MipsWalked (numbers_of t₀) h i (walk (among q f) 0 (mips_of (numbers_of t₀) h t₀ r₀ i)) t₀ r₀ (Err x) t' r'
        selector_stop x e = lap_stop p.measured p.texture w.walk inside (f m) (λ x. sym (among_in q f m x w.from b)) k x e

    pub selector_end : mip_end q ≤ m
        → MipsWalked (numbers_of t₀) h i (walk (among q f) 0 (mips_of (numbers_of t₀) h t₀ r₀ i)) t₀ r₀ (Ok tt) t r
    selector_end b = walk_done (among q f) (numbers_of t₀) h i t₀ r₀ p.measured p.texture w.walk
        (walk_rest (among q f) m _ (λ j x a. among_over q f j x (omega arith)))

  -- a step g that meets no conflict
  module _ {g : List Range → List Range} {m : ℕ} {t r : List ℕ} (w : SelectorLap q (λ k x. fine (g x)) h i t₀ r₀ m t r) where
    pub edit_turn : {t' r' : List ℕ} → m < mip_end q
        → MipsBecome (numbers_of t) h i (set (mips_of (numbers_of t) h t r i) m (g (mip_of (numbers_of t) h t r i m))) t r t' r'
        → SelectorLap q (λ k x. fine (g x)) h i t₀ r₀ (m + 1) t' r'
    edit_turn b k = selector_turn w b (record { conflict = refl; into = k }) refl

    -- what is left in the part that was lent is the mip, once the count is written
    pub edit_lap : {x : Located} {n : ℕ} {l : List ℕ} → m < mip_end q → LocatedAt t h i m (length r) x
        → Leaves (lent_part x r) n (g (decode x.len (lent_part x r))) l
        → SelectorLap q (λ k x. fine (g x)) h i t₀ r₀ (m + 1) (set t (count_at h i m) n) (put_back x r l)
    edit_lap {x} {n} {l} b k u =
        let y = (selector_piece w b).tiled in
        edit_turn b (mip_left y.ready k n l (g (mip_of (numbers_of t) h t r i m)) u.long u.fits (rw (lent_is y k) at u.seen))

    pub edit_end : mip_end q ≤ m → MipsBecome (numbers_of t₀) h i (on_mips q g 0 (mips_of (numbers_of t₀) h t₀ r₀ i)) t₀ r₀ t r
    edit_end b =
        subst (λ (x : Stop InvalidUse (List (List Range))). MipsBecome (numbers_of t₀) h i x.value t₀ r₀ t r)
        (walk_edits q g 0 (mips_of (numbers_of t₀) h t₀ r₀ i))
        (selector_end w b).into
