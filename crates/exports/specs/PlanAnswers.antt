-- The answer of a call on plan files in plain numbers: which numbers tell it, and which answer the numbers tell; nothing is lost in them.
use Rattle.std.specs.Prelude.{◌≡◌, if◌then◌else◌}
use Rattle.model.specs.Prelude.{ℕ, refl, ap, eqb, Result, Ok, Err}
use Rattle.model.specs.declared.CallError.TheVariants.{Refused}
use Rattle.model.specs.{declared.Refusal.Refusal, Refusals.refusal_from, CheckLaws.refusal_told}
use Rattle.exports.specs.{declared.CountedAnswer.CountedAnswer, SetAnswers.answer_of}

-- the numbers of an answer
abbrev pub counted_of : Result ℕ Refusal → CountedAnswer
counted_of (Ok n) = record { answer = answer_of (Ok tt); count = n }
counted_of (Err r) = record { answer = answer_of (Err (Refused r)); count = 0 }

-- the answer that numbers tell
abbrev pub counted_in : CountedAnswer → Result ℕ Refusal
counted_in a = if eqb a.answer.kind 0 then Ok a.count else Err (refusal_from a.answer.number a.answer.place)

-- nothing is lost
pub counted_told : (x : Result ℕ Refusal) → counted_in (counted_of x) ≡ x
counted_told (Ok n) = refl
counted_told (Err r) = ap (λ (y : Refusal). Err y) (refusal_told r)
