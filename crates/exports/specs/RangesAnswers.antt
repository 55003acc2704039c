-- An answer of the calls on ranges in plain numbers: which numbers tell each answer, and which answer the numbers tell.
use Rattle.model.specs.Prelude.{ℕ, eqb, Result, Ok, Err}
use Rattle.std.specs.Prelude.{if◌then◌else◌}
use Rattle.model.specs.declared.CallError.TheVariants.{Refused}
use Rattle.model.specs.{declared.Refusal.Refusal, Refusals.refusal_from}
use Rattle.range_calls.specs.declared.Isolation.{Isolation}
use Rattle.exports.specs.{declared.RangesAnswer.RangesAnswer, SetAnswers.answer_of}

-- ---- The numbers of an answer: what is not told is 0
abbrev pub refused_as : Refusal → RangesAnswer
refused_as r = record { answer = answer_of (Err (Refused r)); position = 0; count = 0; told = 0 }

-- `isolate`: "the run's position and count", and "the strip's new length"
abbrev pub isolate_as : Result Isolation Refusal → RangesAnswer
isolate_as (Err r) = refused_as r
isolate_as (Ok i) = record { answer = answer_of (Ok tt); position = i.position; count = i.count; told = i.told }

-- `coalesce`: "the strip's new length"
abbrev pub coalesce_as : Result ℕ Refusal → RangesAnswer
coalesce_as (Err r) = refused_as r
coalesce_as (Ok n) = record { answer = answer_of (Ok tt); position = 0; count = 0; told = n }

-- `iter_filter`: "tells how many"
abbrev pub filter_as : Result ℕ Refusal → RangesAnswer
filter_as (Err r) = refused_as r
filter_as (Ok n) = record { answer = answer_of (Ok tt); position = 0; count = n; told = 0 }

-- ---- The answer that numbers tell
abbrev pub isolate_in : RangesAnswer → Result Isolation Refusal
isolate_in a =
    if eqb a.answer.kind 0 then Ok (record { position = a.position; count = a.count; told = a.told })
    else Err (refusal_from a.answer.number a.answer.place)

abbrev pub coalesce_in : RangesAnswer → Result ℕ Refusal
coalesce_in a = if eqb a.answer.kind 0 then Ok a.told else Err (refusal_from a.answer.number a.answer.place)

abbrev pub filter_in : RangesAnswer → Result ℕ Refusal
filter_in a = if eqb a.answer.kind 0 then Ok a.count else Err (refusal_from a.answer.number a.answer.place)
