-- What a merge answers, by what its walk over textures met.
use Rattle.model.specs.Prelude.{ℕ, Option, option_map, result_err}
use Rattle.model.specs.{declared.{InvalidUse.InvalidUse}, Calls.{Indexed, answer}, Log.outcome_of}
use Rattle.texture_merge.specs.{Walks.Stopped}
use Rattle.model.specs.Log.{Outcome}

-- a conflict at index i
abbrev pub indexed : ℕ → InvalidUse → Indexed InvalidUse
indexed i c = record { index = i; what = c }

-- what a walk over texture i met, as the model tells it
abbrev pub met_at : ℕ → Stopped → Option (Indexed InvalidUse)
met_at i x = option_map (indexed i) (result_err x)

-- the answer of a call that did no more
abbrev pub told_of : ℕ → Stopped → Outcome
told_of i x = outcome_of (answer (met_at i x))
