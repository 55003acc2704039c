-- Every texture of a given scope, merged into a scope: what is asked for, and the contract of the walk.
use Rattle.std.specs.Prelude.{◌≡◌}
use Rattle.model.specs.Prelude.{ℕ, List}
use Rattle.model.specs.{declared.{UsageFlags.UsageFlags, InvalidUse.InvalidUse}, Base.{Stop, walk₂}}
use Rattle.model.specs.{Sets.{Slot, with_slots}, Calls.{Indexed, answer, merge_given}, Log.outcome_of, Texture.{Held, ranged}}
use Rattle.set_storage.specs.{Storage.{numbers_of, flags_of, scope_of}, Stays.ScopeFrame}
use Rattle.set_checks.specs.Passed.{SetPassed}
use Rattle.set_ready.specs.Tested.{ScopeTested}
use Rattle.model.specs.Log.{Outcome}

-- the model's walk over the textures of both
abbrev pub merged_slots : UsageFlags → List ℕ → List ℕ → List ℕ → List ℕ → Stop (Indexed InvalidUse) (List (Slot Held))
merged_slots p t r g l = walk₂ (merge_given ranged p) 0 (scope_of t r).slots (scope_of g l).slots

-- ---- What is required: two scopes that passed the test, and the checks of one against the other
pub record SlotsReady (t r g l : List ℕ) (p : UsageFlags) : Type 0 where
  pub into : ScopeTested t r
  pub given : ScopeTested g l
  pub passed : SetPassed t g
  pub flags : p ≡ flags_of t

-- THE CONTRACT: the textures become what the model's walk gives, its conflict is told, and all but the named ones stay
pub record SlotsMerged (named : ℕ → Type 0) (w : Stop (Indexed InvalidUse) (List (Slot Held))) (t r : List ℕ) (x : Outcome)
    (t' r' : List ℕ) : Type 0 where
  pub answer : x ≡ outcome_of (answer w.conflict)
  pub view : scope_of t' r' ≡ with_slots (scope_of t r) w.value
  pub frame : ScopeFrame named (numbers_of t) t r t' r'
