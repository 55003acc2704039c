-- The room that a mip of the start needs while it learns.
use Rattle.std.specs.Prelude.{◌*◌, ◌≤◌, ◌≡◌, ◌∷◌, if◌then◌else◌}
use Rattle.model.specs.Prelude.{ℕ, List, [], eqb, length}
use Rattle.model.specs.{declared.Range.Range, RangedStates.{list_of, isolate, paint, coalesce}}
use Rattle.range_states.specs.View.{decode}

-- what the start is after one range of the end: the step of the model's `learn`
abbrev pub learnt : ℕ → ℕ → Range → List Range → List Range
learnt u new r start = if eqb r.state u then coalesce (paint u r.start r.end new start) else start

-- each isolation on the way fits into `room` numbers
abbrev pub LearnFits : ℕ → ℕ → ℕ → List Range → List Range → Type 0
LearnFits room u new [] start = Unit {0}
LearnFits room u new (r ∷ s) start = (r.state ≡ u → 3 * length (list_of (isolate r.start r.end u start)) ≤ room)
    × LearnFits room u new s (learnt u new r start)

pub record LearnRoom (l : List ℕ) (len u new : ℕ) (ends : List Range) : Type 0 where
  pub fits : 3 * len ≤ length l
  pub grown : LearnFits (length l) u new ends (decode len l)
