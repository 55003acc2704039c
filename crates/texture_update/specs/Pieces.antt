-- The pieces of another texture, one after another, on a texture whose end is Many: the model's `update_all`, and that tiling is kept.
use Rattle.model.specs.Prelude.{ℕ, suc, arith, refl, Bool, true, false, List, [], eqb, get_or}
use Rattle.model.specs.{declared.{UsageFlags.UsageFlags, Range.Range}, Representation.{Ends, layer_start, layer_end, in_mips}}
use Rattle.model.specs.{RangedStates.{isolate, Tiles}, Texture.{Held, single, many, Piece, learn_all, learn_held, met_by, update_all}}
use Rattle.model.specs.{BoolLaws.by_test, RangeLaws.isolate_cuts}
use Rattle.std.specs.Prelude.{◌≤◌, ◌<◌, ◌≡◌, ◌∷◌, ◌++◌, if◌then◌else◌}
use Rattle.texture_mips.specs.Kept.{Within, learn_tiles, tiles_within, update_tiles}
use Rattle.set_storage.specs.Storage.{numbers_of, flags_of, start_half, end_half, ends_of, layer_limit_at, layers_at, textures_at}
use Rattle.set_storage.specs.Frames.{Measured}
use Rattle.texture_merge.specs.{Ready.updated_mips, Giving.{Tiled, on_tiled}}

-- ---- What one piece does
-- to the end's mips
abbrev pub painted_by : ℕ → Piece → List (List Range) → List (List Range)
painted_by u q ss = updated_mips u q.selector q.state ss

-- to the start and the end; one that is UNKNOWN is passed over
abbrev pub halves_updated : ℕ → Piece → Held → Held → Ends Held
halves_updated u q x (single cur) = record { start = x; end = single cur }
halves_updated u q x (many ss) =
    if eqb q.state u then record { start = x; end = many ss }
    else record { start = learn_held (met_by u q) u q.state ss x; end = many (painted_by u q ss) }

unfoldable pub updated : ℕ → Piece → Ends Held → Ends Held
updated u q x = halves_updated u q x.start x.end

-- and what several do in turn
unfoldable pub updates : ℕ → List Piece → Ends Held → Ends Held
updates u [] x = x
updates u (q ∷ qs) x = updates u qs (updated u q x)

-- the model's `update_all` gives the pieces so
pub updates_are : (u : ℕ) (qs : List Piece) (ss : List (List Range)) (start : Held)
    → updates u qs (record { start = start; end = many ss }) ≡ update_all u qs ss start
unfolding updates updated update_all
updates_are u [] ss start = refl
updates_are u (q ∷ qs) ss start = go (eqb q.state u) (updates_are u qs ss start)
    (updates_are u qs (painted_by u q ss) (learn_held (met_by u q) u q.state ss start))
  where
    go : (b : Bool) → updates u qs (record { start = start; end = many ss }) ≡ update_all u qs ss start
        → updates u qs (record { start = learn_held (met_by u q) u q.state ss start; end = many (painted_by u q ss) })
        ≡ update_all u qs (painted_by u q ss) (learn_held (met_by u q) u q.state ss start)
        → updates u qs (if b then record { start = start; end = many ss }
        else record { start = learn_held (met_by u q) u q.state ss start; end = many (painted_by u q ss) })
        ≡ (if b then update_all u qs ss start else update_all u qs (painted_by u q ss) (learn_held (met_by u q) u q.state ss start))
    go true passed taken = passed
    go false passed taken = taken

pub updates_append : (u : ℕ) (xs ys : List Piece) (x : Ends Held) → updates u (xs ++ ys) x ≡ updates u ys (updates u xs x)
unfolding updates
updates_append u [] ys x = refl
updates_append u (q ∷ xs) ys x = updates_append u xs ys (updated u q x)

-- ---- Halves that tile their layers go on tiling them
-- where it is Many
abbrev pub HeldTiled : ℕ → Held → Type 0
HeldTiled w (single s) = Unit {0}
HeldTiled w (many ss) = Tiled w ss

-- and it is Many
abbrev pub ManyTiled : ℕ → Held → Type 0
ManyTiled w (single s) = ⊥
ManyTiled w (many ss) = Tiled w ss

-- the start may be Single, the end is Many
pub record EndsTiled (w : ℕ) (x : Ends Held) : Type 0 where
  pub start : HeldTiled w x.start
  pub end : ManyTiled w x.end

learn_tiled : (w u new : ℕ) (part : ℕ → List Range → List Range) → ((k : ℕ) (s : List Range) → Tiles 0 s w → Within (part k s) w)
    → (k : ℕ) (es ss : List (List Range)) → Tiled w es → Tiled w ss → Tiled w (learn_all part u new k es ss)
learn_tiled w u new part f k [] ss a b = b
learn_tiled w u new part f k (e ∷ es) [] a b = tt
learn_tiled w u new part f k (e ∷ es) (s ∷ ss) a b =
    (learn_tiles u new (part k e) s w (f k e a.0) b.0, learn_tiled w u new part f (suc k) es ss a.1 b.1)

module _ (u : ℕ) (q : Piece) (w : ℕ) (h : layer_start q.selector < layer_end q.selector) (g : layer_end q.selector ≤ w) where
  met_within : (k : ℕ) (s : List Range) → Tiles 0 s w → Within (met_by u q k s) w
  met_within k s t =
      by_test (λ (x : List Range). Within x w) (in_mips q.selector k)
      (λ b. tiles_within (isolate (layer_start q.selector) (layer_end q.selector) u s).run (layer_start q.selector)
      (layer_end q.selector) w g (isolate_cuts s 0 (layer_start q.selector) (layer_end q.selector) u w (omega arith) h g t).run)
      (λ b. tt)

  learnt_tiled : (ss : List (List Range)) (x : Held) → Tiled w ss → HeldTiled w x → HeldTiled w (learn_held (met_by u q) u q.state ss x)
  learnt_tiled ss (single s) a b = tt
  learnt_tiled ss (many ts) a b = learn_tiled w u q.state (met_by u q) met_within 0 ss ts a b

  halves_tiled : (x y : Held) → HeldTiled w x → ManyTiled w y → EndsTiled w (halves_updated u q x y)
  halves_tiled x (single cur) a b = absurd b
  halves_tiled x (many ss) a b =
      by_test (EndsTiled w) (eqb q.state u)
      (λ z. record { start = a; end = b })
      (λ z. record {
        start = learnt_tiled ss x b a;
        end = on_tiled w q.selector _ (λ s t. update_tiles u (layer_start q.selector) (layer_end q.selector)
            q.state s w h g t) 0 ss b;
      })

  pub updated_tiled : (x : Ends Held) → EndsTiled w x → EndsTiled w (updated u q x)
  unfolding updated
  updated_tiled x t = halves_tiled x.start x.end t.start t.end

-- ---- What the code needs of the texture that takes them
pub record PairReady (t s e : List ℕ) (i : ℕ) (p : UsageFlags) : Type 0 where
  pub starts : Measured (numbers_of t) start_half t s
  pub ends : Measured (numbers_of t) end_half t e
  pub texture : i < get_or t textures_at 0
  pub some : 0 < get_or t (layers_at i) 0
  pub low : get_or t (layers_at i) 0 ≤ get_or t layer_limit_at 0
  pub flags : p ≡ flags_of t
  pub tiled : EndsTiled (get_or t (layers_at i) 0) (ends_of (numbers_of t) t s e i)
