-- The pieces of another texture, given one after another to the mips of a texture in storage: what is left to give decides.
use Rattle.model.specs.Prelude.{ℕ, zero, suc, arith, refl, sym, ap, subst, ◌∙◌, Bool, true, false, Option, None, Some, option_map, List, []}
use Rattle.model.specs.Prelude.{Ok, Err, result_err, map, length, get_or}
use Rattle.model.specs.declared.{UsageFlags.UsageFlags, Selector.Selector, Range.Range, InvalidUse.InvalidUse}
use Rattle.model.specs.{Base.{each_at, Stop, fine, ruled, and_then, onward, passes, walk}, StateRules.{unite, end_after}, Sets.Numbers}
use Rattle.model.specs.{Representation.{select, layer_start, layer_end, in_mips}, RangedStates.{paint, Tiles}}
use Rattle.model.specs.{Texture.{Piece, on_mips, paint_all, spread_piece, spread_end, merge_mip, invalid_use}, BoolLaws.by_test}
use Rattle.model.specs.RangeLaws.{paint_tiles, tiles_le}
use Rattle.std.specs.Prelude.{◌≤◌, ◌<◌, ◌≡◌, ◌∷◌, ◌++◌}
use Rattle.range_states.specs.View.{decode}
use Rattle.texture_mips.specs.{Merge.{merge_mip_lem, merge_other}, Kept.{run_tiles, update_tiles}}
use Rattle.set_storage.specs.{declared.stored.Run.Run, declared.stored.Stored.Stored}
use Rattle.set_storage.specs.{Storage.{numbers_of, mips_in, mips_of, layers_at, start_half}, Stays.{Frame, keeps_refl, keeps_then}}
use Rattle.set_storage.specs.Frames.{Measured, frame_below, measured_then, mip_at, mips_long}
use Rattle.texture_merge.specs.{Walks.{Stopped, MipsWalked}, Ready.{updated_mips, ManyReady}}

-- ---- What one piece does to the mips
abbrev pub Does : Type 0
Does = Piece → List (List Range) → Stop InvalidUse (List (List Range))

-- `insert`: it is painted
unfoldable pub inserted : UsageFlags → Does
inserted p q ss = fine (on_mips q.selector (paint p.unknown (layer_start q.selector) (layer_end q.selector) q.state) 0 ss)

-- `merge` of Many with Many
abbrev pub merged : UsageFlags → Does
merged p q ss = walk (merge_mip p q) 0 ss

-- `update` of a Single end in the state `cur`
unfoldable pub covered : UsageFlags → ℕ → Does
covered p cur q ss = fine (updated_mips p.unknown q.selector (end_after p.unknown cur q.state) ss)

-- the model's `insert` and `update` give the pieces so
pub inserts : (p : UsageFlags) (qs : List Piece) (ss : List (List Range)) → passes (inserted p) qs ss ≡ fine (paint_all p.unknown qs ss)
unfolding inserted paint_all
inserts p [] ss = refl
inserts p (q ∷ qs) ss = inserts p qs
    (on_mips q.selector (paint p.unknown (layer_start q.selector) (layer_end q.selector) q.state) 0 ss)

pub covers : (p : UsageFlags) (cur : ℕ) (qs : List Piece) (ss : List (List Range))
    → passes (covered p cur) qs ss ≡ fine (spread_end p.unknown cur qs ss)
unfolding covered spread_end
covers p cur [] ss = refl
covers p cur (q ∷ qs) ss = covers p cur qs (updated_mips p.unknown q.selector (end_after p.unknown cur q.state) ss)

pub merges : (p : UsageFlags) (qs : List Piece) (ss : List (List Range))
    → passes (merged p) qs ss ≡ passes (λ q. walk (merge_mip p q) 0) qs ss
merges p qs ss = refl

-- ---- Mips that tile their layers go on tiling them
abbrev pub Tiled : ℕ → List (List Range) → Type 0
Tiled w [] = Unit {0}
Tiled w (s ∷ ss) = Tiles 0 s w × Tiled w ss

tiled_get : (w : ℕ) (ss : List (List Range)) (k : ℕ) → Tiled w ss → k < length ss → Tiles 0 (get_or ss k []) w
tiled_get w [] k t h = absurd (omega arith)
tiled_get w (s ∷ ss) zero t h = t.0
tiled_get w (s ∷ ss) (suc k) t h = tiled_get w ss k t.1 (omega arith)

tiled_of : (w : ℕ) (ss : List (List Range)) → ((k : ℕ) → k < length ss → Tiles 0 (get_or ss k []) w) → Tiled w ss
tiled_of w [] f = tt
tiled_of w (s ∷ ss) f = (f 0 (omega arith), tiled_of w ss (λ k h. f (suc k) (omega arith)))

-- as the storage has them
pub many_tiled : {d : Numbers} {h i w : ℕ} {t r : List ℕ} → ManyReady d h t r i w → Tiled w (mips_of d h t r i)
many_tiled {d} {h} {i} {w} {t} {r} m = tiled_of w (mips_of d h t r i) (λ k b.
    let l : k < mips_in d t i = rw (mips_long d h t r i) at b in
    subst (λ (s : List Range). Tiles 0 s w) (sym (mip_at d h t r i k [] l)) (m.tiled k l))

pub many_ready : {d : Numbers} {h i w : ℕ} {t r : List ℕ} → Measured d h t r → i < d.textures → 0 < w → w ≤ d.layers
    → Tiled w (mips_of d h t r i) → ManyReady d h t r i w
many_ready {d} {h} {i} {w} {t} {r} m hi a b x = record {
  measured = m;
  texture = hi;
  some = a;
  low = b;
  tiled = λ k l. subst (λ (s : List Range). Tiles 0 s w) (mip_at d h t r i k [] l)
      (tiled_get w (mips_of d h t r i) k x (rw (mips_long d h t r i) l));
}

pub on_tiled : (w : ℕ) (q : Selector) (f : List Range → List Range) → ((s : List Range) → Tiles 0 s w → Tiles 0 (f s) w)
    → (k : ℕ) (ss : List (List Range)) → Tiled w ss → Tiled w (on_mips q f k ss)
on_tiled w q f g k [] t = tt
on_tiled w q f g k (s ∷ ss) t =
    (by_test (λ (x : List Range). Tiles 0 x w) (in_mips q k) (λ b. g s t.0) (λ b. t.0), on_tiled w q f g (suc k) ss t.1)

walk_tiled : (w : ℕ) (f : ℕ → List Range → Stop InvalidUse (List Range))
    → ((k : ℕ) (s : List Range) → Tiles 0 s w → Tiles 0 (f k s).value w) → (k : ℕ) (ss : List (List Range)) → Tiled w ss
    → Tiled w (walk f k ss).value
walk_tiled w f g k [] t = tt
walk_tiled w f g k (s ∷ ss) t = go (walk_tiled w f g (suc k) ss t.1) (f k s).conflict
  where
    go : Tiled w (walk f (suc k) ss).value → (c : Option InvalidUse) → Tiled w (onward (f k s).value c ss (walk f (suc k) ss)).value
    go ih None = (g k s t.0, ih)
    go ih (Some c) = (g k s t.0, t.1)

merge_tiled : (p : UsageFlags) (q : Piece) (w : ℕ) → layer_start q.selector < layer_end q.selector → layer_end q.selector ≤ w
    → (k : ℕ) (s : List Range) → Tiles 0 s w → Tiles 0 (merge_mip p q k s).value w
merge_tiled p q w h g k s t = go (in_mips q.selector k) refl
  where
    go : (b : Bool) → in_mips q.selector k ≡ b → Tiles 0 (merge_mip p q k s).value w
    go true e = rw (merge_mip_lem p q k s e) (run_tiles p k (layer_start q.selector) (layer_end q.selector) q.state s w h g t)
    go false e = rw (merge_other p q k s e) t

-- so does what one piece does to them
abbrev pub KeepsTiled : Does → Type 0
KeepsTiled f = (q : Piece) (w : ℕ) (ss : List (List Range)) → layer_start q.selector < layer_end q.selector → layer_end q.selector ≤ w
    → Tiled w ss → Tiled w (f q ss).value

pub inserted_tiled : (p : UsageFlags) → KeepsTiled (inserted p)
unfolding inserted
inserted_tiled p q w ss h g t =
    on_tiled w q.selector _ (λ s x. paint_tiles s 0 (layer_start q.selector) (layer_end q.selector) p.unknown
    q.state w (omega arith) h g x) 0 ss t

pub merged_tiled : (p : UsageFlags) → KeepsTiled (merged p)
merged_tiled p q w ss h g t = walk_tiled w (merge_mip p q) (merge_tiled p q w h g) 0 ss t

pub spread_tiled : (p : UsageFlags) (cur : ℕ) → KeepsTiled (spread_piece p cur)
unfolding spread_piece
spread_tiled p cur q w ss h g t = go (unite p cur q.state)
  where
    go : (o : Option ℕ)
        → Tiled w (ruled {C = InvalidUse} ss (invalid_use q.selector cur q.state)
        (option_map (λ (u : ℕ). updated_mips p.unknown q.selector u ss) o)).value
    go None = t
    go (Some u) = on_tiled w q.selector _
        (λ s x. update_tiles p.unknown (layer_start q.selector) (layer_end q.selector) u s w h g x) 0 ss t

pub covered_tiled : (p : UsageFlags) (cur : ℕ) → KeepsTiled (covered p cur)
unfolding covered
covered_tiled p cur q w ss h g t =
    on_tiled w q.selector _ (λ s x. update_tiles p.unknown (layer_start q.selector) (layer_end q.selector)
    (end_after p.unknown cur q.state) s w h g x) 0 ss t

-- ---- Pieces of one mip, and of the mips from k on
abbrev pub piece_on : ℕ → Range → Piece
piece_on k r = record { selector = select k (suc k) r.start r.end; state = r.state }

abbrev pub pieces_from : ℕ → List (List Range) → List Piece
pieces_from k ss = each_at (λ m s. map (piece_on m) s) k ss

module _ {C Q S : Type 0} (f : Q → S → Stop C S) where
  pub passes_append : (xs ys : List Q) (s : S)
      → passes f (xs ++ ys) s ≡ and_then (passes f xs s).conflict (passes f xs s).value (passes f ys (passes f xs s).value)
  passes_append [] ys s = refl
  passes_append (x ∷ xs) ys s = go (passes_append xs ys (f x s).value) (f x s).conflict
    where
      go : passes f (xs ++ ys) (f x s).value
          ≡ and_then (passes f xs (f x s).value).conflict (passes f xs (f x s).value).value (passes f ys
          (passes f xs (f x s).value).value) → (c : Option C)
          → and_then c (f x s).value (passes f (xs ++ ys) (f x s).value)
          ≡ and_then (and_then c (f x s).value (passes f xs (f x s).value)).conflict (and_then c (f x s).value
          (passes f xs (f x s).value)).value (passes f ys (and_then c (f x s).value (passes f xs (f x s).value)).value)
      go ih None = ih
      go ih (Some c) = refl

-- ---- The storage on the way: `left` is what is still to be done
module _ (h i layers : ℕ) (goal : Stop InvalidUse (List (List Range))) (t₀ r₀ : List ℕ) where
  pub record Giving (left : List (List Range) → Stop InvalidUse (List (List Range))) (t r : List ℕ) : Type 0 where
    pub ends : left (mips_of (numbers_of t₀) h t r i) ≡ goal
    pub frame : Frame (numbers_of t₀) h i t₀ r₀ t r
    pub tiled : Tiled layers (mips_of (numbers_of t₀) h t r i)

module _ {h i layers : ℕ} {t r : List ℕ} (m : ManyReady (numbers_of t) h t r i layers) where
  pub giving_start : (left : List (List Range) → Stop InvalidUse (List (List Range)))
      → Giving h i layers (left (mips_of (numbers_of t) h t r i)) t r left t r
  giving_start left = record { ends = refl; frame = keeps_refl t r; tiled = many_tiled m }

module _ {h i layers : ℕ} {goal : Stop InvalidUse (List (List Range))} {t₀ r₀ t r : List ℕ} {left : List (List Range)
    → Stop InvalidUse (List (List Range))} (m : ManyReady (numbers_of t₀) h t₀ r₀ i layers) (g : Giving h i
    layers goal t₀ r₀ left t r) where
  dims : numbers_of t ≡ numbers_of t₀
  dims = (measured_then m.measured g.frame).dims

  pub giving_word : (x : ℕ) → x < start_half → get_or t x 0 ≡ get_or t₀ x 0
  giving_word x q = frame_below g.frame x (omega (arith, m.measured.half.0))

  -- the texture is ready for the next piece
  pub giving_ready : ManyReady (numbers_of t) h t r i layers
  giving_ready = subst (λ (d : Numbers). ManyReady d h t r i layers) (sym dims)
      (many_ready (measured_then m.measured g.frame) m.texture m.some m.low g.tiled)

  module _ {t' r' : List ℕ} {x : Stopped} (f : List (List Range) → Stop InvalidUse (List (List Range))) (next : List (List Range)
      → Stop InvalidUse (List (List Range)))
      (splits : (ss : List (List Range)) → left ss ≡ and_then (f ss).conflict (f ss).value (next (f ss).value))
      (w : MipsWalked (numbers_of t) h i (f (mips_of (numbers_of t) h t r i)) t r x t' r') where
    here : MipsWalked (numbers_of t₀) h i (f (mips_of (numbers_of t₀) h t r i)) t r x t' r'
    here = subst (λ (d : Numbers). MipsWalked d h i (f (mips_of d h t r i)) t r x t' r') dims w

    rest : (c : Option InvalidUse) → result_err x ≡ c
        → and_then c (mips_of (numbers_of t₀) h t' r' i) (next (mips_of (numbers_of t₀) h t' r' i)) ≡ goal
    rest c e = rw (← e, here.conflict, here.into.mips) (sym (splits (mips_of (numbers_of t₀) h t r i)) ∙ g.ends)

    pub giving_turn : result_err x ≡ None → Tiled layers (f (mips_of (numbers_of t₀) h t r i)).value
        → Giving h i layers goal t₀ r₀ next t' r'
    giving_turn e k = record {
      ends = rest None e;
      frame = keeps_then g.frame here.into.frame;
      tiled = subst (λ (ss : List (List Range)). Tiled layers ss) (sym here.into.mips) k;
    }

    pub giving_stop : (c : InvalidUse) → result_err x ≡ Some c → MipsWalked (numbers_of t₀) h i goal t₀ r₀ (Err c) t' r'
    giving_stop c e =
        let z = rest (Some c) e in
        record {
          conflict = ap (λ (s : Stop InvalidUse (List (List Range))). s.conflict) z;
          into = record {
            mips = ap (λ (s : Stop InvalidUse (List (List Range))). s.value) z;
            frame = keeps_then g.frame here.into.frame;
          };
        }

  -- nothing is left
  pub giving_end : ((ss : List (List Range)) → left ss ≡ fine ss) → MipsWalked (numbers_of t₀) h i goal t₀ r₀ (Ok tt) t r
  giving_end e =
      let z = sym (e (mips_of (numbers_of t₀) h t r i)) ∙ g.ends in
      record {
        conflict = ap (λ (s : Stop InvalidUse (List (List Range))). s.conflict) z;
        into = record { mips = ap (λ (s : Stop InvalidUse (List (List Range))). s.value) z; frame = g.frame };
      }

-- ---- What is given: a mip whose ranges tile the layers, and a texture of such mips
pub record GivenMip (t : List ℕ) (i m : ℕ) (run : Run) : Type 0 where
  pub mip : m < mips_in (numbers_of t) t i
  pub tiled : Tiles 0 (decode run.len run.records.now) (get_or t (layers_at i) 0)

pub record GivenTexture (t : List ℕ) (mips : ℕ) (g : Stored) : Type 0 where
  pub many : ManyReady (numbers_of g.table.now) g.half g.table.now g.ranges.now g.i (get_or t (layers_at g.i) 0)
  pub own : mips ≡ mips_in (numbers_of t) t g.i
  pub same : mips ≡ mips_in (numbers_of g.table.now) g.table.now g.i

-- pieces within the layers keep the mips tiled
pub passes_tiled : (f : Does) → KeepsTiled f → (m w : ℕ) (rs : List Range) (a : ℕ) (ss : List (List Range)) → Tiles a rs w → Tiled w ss
    → Tiled w (passes f (map (piece_on m) rs) ss).value
passes_tiled f k m w [] a ss t q = q
passes_tiled f k m w (r ∷ rs) a ss t q =
    let j = k (piece_on m r) w ss (omega arith) (tiles_le rs r.end w t.2) q in
    go (passes_tiled f k m w rs r.end (f (piece_on m r) ss).value t.2 j) j (f (piece_on m r) ss).conflict
  where
    go : Tiled w (passes f (map (piece_on m) rs) (f (piece_on m r) ss).value).value → Tiled w (f (piece_on m r) ss).value
        → (c : Option InvalidUse)
        → Tiled w (and_then c (f (piece_on m r) ss).value (passes f (map (piece_on m) rs) (f (piece_on m r) ss).value)).value
    go ih j None = ih
    go ih j (Some c) = j
