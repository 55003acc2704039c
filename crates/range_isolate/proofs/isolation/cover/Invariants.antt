-- `cover` goes on until one of its ways out: what is left to do, from here, is what was to do from the start.
use Rattle.std.specs.Prelude.{◌+◌, ◌-◌, ◌≤◌, ◌<◌, ◌≡◌}
use Rattle.model.specs.Prelude.{ℕ, arith, ◌∙◌, List, length, get_or}
use Rattle.model.specs.declared.{Range.Range}
use Rattle.range_states.specs.View.{view, blank}
use Rattle.range_isolate.proofs.Covering.{cover_more, cover_room, room_gap}
use Rattle.range_isolate.specs.{declared.isolation.Placed.Placed, Isolation.{Covered, Gapped, CoverRoom}}
use Rattle.range_isolate.proofs.isolation.cover.Given as goal

-- what is left to do, from here, is what was to do from the start
pub record Onward (s₀ : List ℕ) (len pos at e d : ℕ) (s : List ℕ) (n p a : ℕ) : Type 0 where
  pub low : p ≤ n
  pub room : CoverRoom s n p a e d
  pub long : length s ≡ length s₀
  pub on : (r : Placed) (l' : List ℕ) → Covered s n p a e d r l' → Covered s₀ len pos at e d r l'

pub turn : {s₀ : List ℕ} {len pos at e d : ℕ} {s : List ℕ} {n p a : ℕ} {x : Range} {g : ℕ} {s' : List ℕ} → Onward s₀ len pos at e d s n p a
    → p < n → x ≡ get_or (view s) p blank → x.start < e → Gapped s n p a x.start d g s' → x.end < e
    → Onward s₀ len pos at e d s' (n + g) (p + g + 1) x.end
turn {x = x} j t o u q k =
    record {
      low = omega arith;
      room = cover_room _ _ _ _ _ x _ _ (room_gap j.room j.low t o u) t q _ o u j.room k;
      long = q.into.long ∙ j.long;
      on = λ r l' c. j.on r l' (cover_more _ _ _ _ _ x _ _ (room_gap j.room j.low t o u) t q _ o u r l' k c);
    }

abbrev pub invariant-loop-p : goal.invariant-loop-p
invariant-loop-p l = Onward l.initial.s l.len l.pos l.at l.end l.default l.s l.n l.p l.a

abbrev pub decreases-loop-p : goal.decreases-loop-p
decreases-loop-p l = l.n - l.p
