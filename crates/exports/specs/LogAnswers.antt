-- The answer of a merge of two logs in plain numbers: which numbers tell it, and which answer the numbers tell.
use Rattle.std.specs.Prelude.{◌-◌, if◌then◌else◌}
use Rattle.model.specs.Prelude.{ℕ, eqb}
use Rattle.model.specs.{declared.LogHead.LogHead, Log.{Answered, Outcome}}
use Rattle.log_merge.specs.{declared.Rest.Rest, declared.Rest.TheVariants.{First, Second}, Calls.{begins_at, which_of}}
use Rattle.exports.specs.{declared.MergedAnswer.MergedAnswer, SetAnswers.{answer_of, outcome_of}}

-- what a merge tells: the outcome and the third log's head, and the rest
pub record MergeTold : Type 0 where
  pub answered : Answered
  pub rest : Rest

abbrev pub merge_told : Outcome → LogHead → Rest → MergeTold
merge_told x h r = record { answered = record { outcome = x; head = h }; rest = r }

-- ---- The numbers of an answer
-- 1 for the first log, 0 for the second
abbrev pub flag_of : Rest → ℕ
flag_of (First n) = 1
flag_of (Second n) = 0

-- of two logs of n and of m numbers
abbrev pub merged_of : MergeTold → ℕ → ℕ → MergedAnswer
merged_of x n m = record {
  answer = answer_of x.answered.outcome;
  written = x.answered.head.written;
  free = x.answered.head.free;
  rest_first = flag_of x.rest;
  rest_offset = begins_at x.rest;
  rest_length = which_of x.rest n m - begins_at x.rest;
}

-- ---- The answer that numbers tell
abbrev pub merged_in : MergedAnswer → MergeTold
merged_in a = merge_told (outcome_of a.answer) (record { written = a.written; free = a.free })
    (if eqb a.rest_first 1 then First a.rest_offset else Second a.rest_offset)
