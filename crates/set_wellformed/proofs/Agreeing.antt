-- The loop of `ranges_agree`: a layer that both places have reached, and what is left from it on in each list.
use Rattle.model.specs.Prelude.{ℕ, zero, suc, arith, refl, sym, ◌∙◌, Bool, true, false, List, [], get_or, drop, replicate, slice_empty}
use Rattle.model.specs.Prelude.{le-leb, lt-leb}
use Rattle.model.specs.{declared.Range.Range, RangedStates.{layer_states, Tiles}, WellFormed.all₂, RangeLaws.tiles_count, BoolLaws.by_lt}
use Rattle.std.specs.Prelude.{◌+◌, ◌-◌, ◌≤◌, ◌<◌, ◌≡◌, ◌∷◌, ◌++◌}
use Rattle.range_states.specs.View.{view, decode, blank}
use Rattle.set_wellformed.specs.Unknowns.{agrees, layers_agree, passed, SameLayers}
use Rattle.range_states.proofs.Inserting.{next_is}

-- ---- Two runs of one state each, side by side
module _ {A : Type 0} (f : A → A → Bool) (a b : A) where
  pub skip_left : (n m q : ℕ) (l k : List A) → q ≡ m + n → f a b ≡ true
      → all₂ f (replicate n a ++ l) (replicate q b ++ k) ≡ all₂ f l (replicate m b ++ k)
  skip_left zero m q l k h e = let z : q ≡ m = omega arith in rw z
  skip_left (suc n) m zero l k h e = absurd (omega arith)
  skip_left (suc n) m (suc q) l k h e = rw e (skip_left n m q l k (omega arith) e)

  skip_right : (n m q : ℕ) (l k : List A) → q ≡ m + n → f a b ≡ true
      → all₂ f (replicate q a ++ l) (replicate n b ++ k) ≡ all₂ f (replicate m a ++ l) k
  skip_right zero m q l k h e = let z : q ≡ m = omega arith in rw z
  skip_right (suc n) m zero l k h e = absurd (omega arith)
  skip_right (suc n) m (suc q) l k h e = rw e (skip_right n m q l k (omega arith) e)

  pub stop_here : (n m : ℕ) (l k : List A) → 0 < n → 0 < m → f a b ≡ false → all₂ f (replicate n a ++ l) (replicate m b ++ k) ≡ false
  stop_here zero m l k h g e = absurd (omega arith)
  stop_here (suc n) zero l k h g e = absurd (omega arith)
  stop_here (suc n) (suc m) l k h g e = rw e

-- ---- A list of ranges from layer a on, which its first range has
abbrev pub states_from : ℕ → List Range → List ℕ
states_from a [] = []
states_from a (r ∷ s) = replicate (r.end - a) r.state ++ layer_states s

abbrev pub TilesFrom : ℕ → List Range → ℕ → Type 0
TilesFrom a [] e = a ≡ e
TilesFrom a (r ∷ s) e = (a < r.end) × Tiles r.end s e

from_tiles : (s : List Range) (a e : ℕ) → Tiles a s e → TilesFrom a s e
from_tiles [] a e t = t
from_tiles (r ∷ s) a e t = (t.1, t.2)

states_from_lem : (s : List Range) (a e : ℕ) → Tiles a s e → states_from a s ≡ layer_states s
unfolding layer_states
states_from_lem [] a e t = refl
states_from_lem (r ∷ s) a e t = rw t.0

-- it is left as long as the other is
some_left : (s t : List Range) (r : Range) (a e : ℕ) → TilesFrom a (r ∷ s) e → TilesFrom a t e → (t ≡ [] → ⊥)
some_left s t r a e x y z = let q : a ≡ e = rw z at y in omega (arith, x.0, tiles_count s r.end e x.1)

-- of two ranges one is passed
pub passed_some : (a b : ℕ) → 0 < passed a b + passed b a
passed_some a b = by_lt a b (λ h. rw (le-leb a b (omega arith)) (omega arith)) (λ h. rw (le-leb b a h) (omega arith))

-- ---- The loop
pub record Walk (u : ℕ) (xs ys : List Range) (i j : ℕ) : Type 0 where
  pub top : ℕ
  pub at : ℕ
  pub left : TilesFrom at (drop i xs) top
  pub right : TilesFrom at (drop j ys) top
  pub on : all₂ (agrees u) (states_from at (drop i xs)) (states_from at (drop j ys)) ≡ layers_agree u xs ys

-- the two ranges side by side, x and y; what follows them is s and t
module _ (u : ℕ) (x y : Range) (s t : List Range) (a e : ℕ) (l : TilesFrom a (x ∷ s) e) (r : TilesFrom a (y ∷ t) e) where
  abbrev both : Bool
  both = all₂ (agrees u) (states_from a (x ∷ s)) (states_from a (y ∷ t))

  differ : agrees u x.state y.state ≡ false → both ≡ false
  differ q = stop_here (agrees u) x.state y.state (x.end - a) (y.end - a) (layer_states s) (layer_states t)
      (omega (arith, l.0)) (omega (arith, r.0)) q

  left_ends : agrees u x.state y.state ≡ true → x.end ≤ y.end
      → both ≡ all₂ (agrees u) (states_from x.end s) (replicate (y.end - x.end) y.state ++ layer_states t)
  left_ends q h =
      rw (states_from_lem s x.end e l.1)
      (skip_left (agrees u) x.state y.state (x.end - a) (y.end - x.end) (y.end - a) (layer_states s)
      (layer_states t) (omega (arith, l.0)) q)

  right_ends : agrees u x.state y.state ≡ true → y.end ≤ x.end
      → both ≡ all₂ (agrees u) (replicate (x.end - y.end) x.state ++ layer_states s) (states_from y.end t)
  right_ends q h =
      rw (states_from_lem t y.end e r.1)
      (skip_right (agrees u) x.state y.state (y.end - a) (x.end - y.end) (x.end - a) (layer_states s)
      (layer_states t) (omega (arith, r.0)) q)

  both_end : agrees u x.state y.state ≡ true → x.end ≡ y.end → both ≡ all₂ (agrees u) (states_from x.end s) (states_from x.end t)
  both_end q h =
      let z : y.end - x.end ≡ 0 = omega arith in let tt : Tiles x.end t e = rw (← h) at r.1 in
      left_ends q (omega arith) ∙ rw (z, states_from_lem t x.end e tt)

-- the lists of the code
module _ {a : List ℕ} {la : ℕ} {b : List ℕ} {lb u : ℕ} (same : SameLayers a la b lb) where
  pub walk_start : Walk u (decode la a) (decode lb b) 0 0
  walk_start = record {
    top = same.top;
    at = 0;
    left = from_tiles (decode la a) 0 same.top same.left_tiles;
    right = from_tiles (decode lb b) 0 same.top same.right_tiles;
    on = rw (states_from_lem (decode la a) 0 same.top same.left_tiles, states_from_lem (decode lb b) 0 same.top same.right_tiles);
  }

  module _ {i j : ℕ} (w : Walk u (decode la a) (decode lb b) i j) (hi : i < la) {x : Range} (gx : x ≡ get_or (view a) i blank) where
    left_now : TilesFrom w.at (x ∷ drop (i + 1) (decode la a)) w.top
    left_now = rw (next_is a la i x same.left hi gx) at w.left

    -- the other list has a range left
    pub still : j ≤ lb → j < lb
    still hj =
        by_lt j lb (λ h. h) (λ h. let z : j ≡ lb = omega arith in
        absurd (some_left (drop (i + 1) (decode la a)) (drop j (decode lb b)) x w.at w.top left_now w.right
        (rw (z, slice_empty lb (view b)) refl)))

    module _ {y : Range} (hj : j < lb) (gy : y ≡ get_or (view b) j blank) where
      right_now : TilesFrom w.at (y ∷ drop (j + 1) (decode lb b)) w.top
      right_now = rw (next_is b lb j y same.right hj gy) at w.right

      on_now : all₂ (agrees u) (states_from w.at (x ∷ drop (i + 1) (decode la a))) (states_from w.at (y ∷ drop (j + 1) (decode lb b)))
          ≡ layers_agree u (decode la a) (decode lb b)
      on_now = rw (next_is a la i x same.left hi gx, next_is b lb j y same.right hj gy) at w.on

      pub walk_differ : agrees u x.state y.state ≡ false → false ≡ layers_agree u (decode la a) (decode lb b)
      walk_differ q = sym (differ u x y (drop (i + 1) (decode la a)) (drop (j + 1) (decode lb b)) w.at w.top left_now right_now q) ∙ on_now

      pub walk_turn : agrees u x.state y.state ≡ true → Walk u (decode la a) (decode lb b) (i + passed x.end y.end) (j + passed y.end x.end)
      walk_turn q =
          let s = drop (i + 1) (decode la a) in let t = drop (j + 1) (decode lb b) in let i₀ : i + 0 ≡ i = omega arith in
          let j₀ : j + 0 ≡ j = omega arith in
          by_lt x.end y.end
          (λ h. rw (le-leb x.end y.end (omega arith), lt-leb y.end x.end h, j₀) record {
            top = w.top;
            at = x.end;
            left = from_tiles s x.end w.top left_now.1;
            right = rw (next_is b lb j y same.right hj gy) (h, right_now.1);
            on = rw (next_is b lb j y same.right hj gy) (sym (left_ends u x y s t w.at w.top left_now right_now q (omega arith)) ∙ on_now);
          })
          (λ h. by_lt y.end x.end
          (λ g. rw (lt-leb x.end y.end g, le-leb y.end x.end h, i₀) record {
            top = w.top;
            at = y.end;
            left = rw (next_is a la i x same.left hi gx) (g, left_now.1);
            right = from_tiles t y.end w.top right_now.1;
            on = rw (next_is a la i x same.left hi gx) (sym (right_ends u x y s t w.at w.top left_now right_now q h) ∙ on_now);
          })
          (λ g. let z : x.end ≡ y.end = omega arith in rw (le-leb x.end y.end g, le-leb y.end x.end h) record {
            top = w.top;
            at = x.end;
            left = from_tiles s x.end w.top left_now.1;
            right = rw z (from_tiles t y.end w.top right_now.1);
            on = sym (both_end u x y s t w.at w.top left_now right_now q z) ∙ on_now;
          }))

  -- nothing is left of one list, and so nothing of the other
  pub walk_end : {i j : ℕ} → Walk u (decode la a) (decode lb b) i j → i ≤ la → la ≤ i → true ≡ layers_agree u (decode la a) (decode lb b)
  walk_end {i} {j} w h g =
      let z : i ≡ la = omega arith in let gone : drop i (decode la a) ≡ [] = rw (z, slice_empty la (view a)) in
      go (drop j (decode lb b)) (rw gone at w.left) w.right (rw gone at w.on)
    where
      go : (t : List Range) → w.at ≡ w.top → TilesFrom w.at t w.top
          → all₂ (agrees u) [] (states_from w.at t) ≡ layers_agree u (decode la a) (decode lb b)
          → true ≡ layers_agree u (decode la a) (decode lb b)
      go [] p q o = o
      go (r ∷ t) p q o = absurd (omega (arith, q.0, tiles_count t r.end w.top q.1))
