-- THE CONTRACT of a merge into a scope: the answer, and the content of what was lent.
use Rattle.model.specs.Prelude.{ℕ, Bool, true, List}
use Rattle.model.specs.{declared.{InvalidUse.InvalidUse}, Sets.Set, Calls.CallResult}
use Rattle.model.specs.{Log.{is_refused, outcome_of, merging}, Texture.{Held, Entry}}
use Rattle.std.specs.Prelude.{◌≡◌}
use Rattle.set_storage.specs.{Storage.{numbers_of, scope_of}, Stays.ScopeFrame}
use Rattle.set_ready.specs.Named.{Within}
use Rattle.model.specs.Log.{Outcome}

-- `fits` says whether every set that was handed in is well formed, `m` is the model's call, and `named` are the indices that the call
-- names. All that is lent stays but the words and the ranges of those: "More room is ignored". Free, and in no view, is only what is
-- unused inside them: which nonzero number marks one as owned, the counts and the ranges of a Single texture, counts and ranges of mips
-- that it does not have, and the ranges past a count.
pub record Merged (named : ℕ → Type 0) (fits : Bool) (m : CallResult InvalidUse (List Entry) (Set Held)) (t r : List ℕ) (x : Outcome)
    (t' r' : List ℕ) : Type 0 where
  pub answer : x ≡ outcome_of (merging fits (scope_of t r) m).answer
  pub view : scope_of t' r' ≡ (merging fits (scope_of t r) m).after
  -- "Everything lent stays."
  pub kept : is_refused x ≡ true → (t' ≡ t) × (r' ≡ r)
  -- every number of what is lent stays but those of the named textures
  pub stays : ScopeFrame (Within t named) (numbers_of t) t r t' r'
