-- The loop of `learn`: what is left to learn, from here, is what was to learn from the start.
use Rattle.std.specs.Prelude.{◌+◌, ◌*◌, ◌≤◌, ◌<◌, ◌≡◌, ◌∷◌}
use Rattle.model.specs.Prelude.{ℕ, arith, sym, ◌∙◌, List, [], length, get_or, drop, slice_empty, eq-eqb}
use Rattle.model.specs.Prelude.{ne_eqb}
use Rattle.model.specs.{declared.Range.Range, RangedStates.{coalesce, paint}, Texture.learn}
use Rattle.range_states.specs.View.{view, decode, blank}
use Rattle.range_isolate.specs.Isolation.{IsolateRoom}
use Rattle.texture_mips.specs.{Paint.Leaves, Learn.{learnt, LearnFits}}
use Rattle.range_states.proofs.Inserting.{next_is}

pub record Learning (s₀ : List ℕ) (len : ℕ) (ends : List ℕ) (from to u new : ℕ) (s : List ℕ) (n k : ℕ) : Type 0 where
  pub low : from ≤ k
  pub high : k ≤ to
  pub long : length s ≡ length s₀
  pub fits : 3 * n ≤ length s₀
  pub grown : LearnFits (length s₀) u new (drop k (decode to ends)) (decode n s)
  pub left : learn u new (drop k (decode to ends)) (decode n s) ≡ learn u new (drop from (decode to ends)) (decode len s₀)

module _ {s₀ : List ℕ} {len : ℕ} {ends : List ℕ} {from to u new : ℕ} {s : List ℕ} {n k : ℕ} (room : 3 * to ≤ length ends)
    (j : Learning s₀ len ends from to u new s n k) where
  module _ {x : Range} (t : k < to) (g : x ≡ get_or (view ends) k blank) where
    abbrev behind : List Range
    behind = drop (k + 1) (decode to ends)

    here : drop k (decode to ends) ≡ x ∷ behind
    here = next_is ends to k x room t g

    fits_here : LearnFits (length s₀) u new (x ∷ behind) (decode n s)
    fits_here = rw here at j.grown

    left_here : learn u new behind (learnt u new x (decode n s)) ≡ learn u new (drop from (decode to ends)) (decode len s₀)
    unfolding learn
    left_here = rw here at j.left

    pub room_here : x.state ≡ u → IsolateRoom s n x.start x.end u
    room_here e = record { fits = omega (arith, j.fits, j.long); grown = omega (arith, fits_here.0 e, j.long) }

    pub turn_yes : {n' : ℕ} {s' : List ℕ} → x.state ≡ u → Leaves s n' (coalesce (paint u x.start x.end new (decode n s))) s'
        → Learning s₀ len ends from to u new s' n' (k + 1)
    turn_yes {n'} {s'} e f =
        let q : learnt u new x (decode n s) ≡ decode n' s' = rw (eq-eqb x.state u e) (sym f.seen) in
        record {
          low = omega (arith, j.low);
          high = omega arith;
          long = f.long ∙ j.long;
          fits = omega (arith, f.fits, j.long);
          grown = rw (← q) fits_here.1;
          left = rw (← q) left_here;
        }

    pub turn_no : (x.state ≡ u → ⊥) → Learning s₀ len ends from to u new s n (k + 1)
    turn_no e =
        let q : learnt u new x (decode n s) ≡ decode n s = rw (ne_eqb x.state u e) in
        record {
          low = omega (arith, j.low);
          high = omega arith;
          long = j.long;
          fits = j.fits;
          grown = rw (← q) fits_here.1;
          left = rw (← q) left_here;
        }

  pub finish : to ≤ k → Leaves s₀ n (learn u new (drop from (decode to ends)) (decode len s₀)) s
  unfolding learn
  finish t =
      let e : k ≡ to = omega (arith, j.high) in let z : drop k (decode to ends) ≡ [] = rw e (slice_empty to (view ends)) in
      record { long = j.long; fits = j.fits; seen = rw z at j.left }
