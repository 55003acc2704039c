-- Nothing is lost in the numbers: each outcome is told by numbers that tell it alone, and none by 10.
use mir.Val.{bool_byte}
use Rattle.std.specs.Prelude.{◌≡◌, if◌then◌else◌}
use Rattle.model.specs.Prelude.{Bool, true, false, arith, refl, ap, Ok, Err}
use Rattle.model.specs.declared.CallError.TheVariants.{Refused, Conflict}
use Rattle.model.specs.{declared.Refusal.Refusal, Log.{Answered, Outcome}, CheckLaws.{refusal_told, never_ten}}
use Rattle.exports.specs.SetAnswers.{answer_of, outcome_of, logged_of, answered_of}

-- an outcome
pub outcome_told : (x : Outcome) → outcome_of (answer_of x) ≡ x
outcome_told (Ok u) = refl
outcome_told (Err (Refused r)) = ap (λ (y : Refusal). Err (Refused y)) (refusal_told r)
outcome_told (Err (Conflict c)) = refl

-- an outcome with the head of the log
pub answered_told : (x : Answered) → answered_of (logged_of x) ≡ x
answered_told x = rw (outcome_told x.outcome)

-- "10 is never given again"
pub outcome_never_ten : (x : Outcome) → (answer_of x).number ≡ 10 → ⊥
outcome_never_ten (Ok u) e = absurd (omega (arith, e))
outcome_never_ten (Err (Refused r)) e = never_ten r e
outcome_never_ten (Err (Conflict c)) e = absurd (omega (arith, e))

-- a test as a number
pub flag_is : (b : Bool) → bool_byte b ≡ (if b then 1 else 0)
flag_is true = refl
flag_is false = refl
