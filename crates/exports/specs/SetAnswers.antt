-- An answer in plain numbers: which numbers tell each outcome of a call, and which outcome the numbers tell.
use Rattle.model.specs.Prelude.{ℕ, eqb, Option, None, Some, Ok, Err}
use Rattle.model.specs.{declared.Conflict.Conflict as Conflicting, declared.CallError.TheVariants.{Refused, Conflict}}
use Rattle.model.specs.declared.{LogHead.LogHead, Selector.Selector, UsageFlags.UsageFlags}
use Rattle.std.specs.Prelude.{if◌then◌else◌}
use Rattle.model.specs.{Log.{Answered, Outcome}, Refusals.{number_of, place_of, tracker_index, refusal_from}}
use Rattle.model.specs.Representation.{select, mip_start, mip_end, layer_start, layer_end}
use Rattle.exports.specs.declared.{Answer.Answer, LoggedAnswer.LoggedAnswer}

-- ---- The numbers of an outcome
-- "The answer is the number and a place": what is not told is 0
abbrev pub refused_as : ℕ → ℕ → Answer
refused_as n i = record {
  kind = 1;
  number = n;
  place = i;
  index = 0;
  mip_start = 0;
  mip_end = 0;
  layer_start = 0;
  layer_end = 0;
  old_state = 0;
  new_state = 0;
}

-- a conflict (01: a clash): its texture, its place, and both states
abbrev pub conflict_as : Conflicting → Answer
conflict_as c = record {
  kind = 2;
  number = 0;
  place = 0;
  index = c.index.0;
  mip_start = mip_start c.found.selector;
  mip_end = mip_end c.found.selector;
  layer_start = layer_start c.found.selector;
  layer_end = layer_end c.found.selector;
  old_state = c.found.old;
  new_state = c.found.new;
}

-- each outcome
abbrev pub answer_of : Outcome → Answer
answer_of (Ok u) = record {
  kind = 0;
  number = 0;
  place = 0;
  index = 0;
  mip_start = 0;
  mip_end = 0;
  layer_start = 0;
  layer_end = 0;
  old_state = 0;
  new_state = 0;
}
answer_of (Err (Refused r)) = refused_as (number_of r) (place_of r)
answer_of (Err (Conflict c)) = conflict_as c

-- and with the head of the log
abbrev pub logged_of : Answered → LoggedAnswer
logged_of x = record { answer = answer_of x.outcome; written = x.head.written; free = x.head.free }

-- ---- The outcome that numbers tell
-- (a refusal is looked up by its number, model's `refusal_from`; a number that no row of the table has is no answer's, since an answer has
-- the numbers of the outcome that it tells)

-- the conflict, by its numbers
abbrev pub conflict_of : Answer → Conflicting
conflict_of a = record {
  index = tracker_index a.index;
  found = record {
    selector = select a.mip_start a.mip_end a.layer_start a.layer_end;
    old = a.old_state;
    new = a.new_state;
  };
}

-- each kind
abbrev pub outcome_of : Answer → Outcome
outcome_of a = if eqb a.kind 0 then Ok tt else if eqb a.kind 1
    then Err (Refused (refusal_from a.number a.place)) else Err (Conflict (conflict_of a))

-- and with the head of the log
abbrev pub answered_of : LoggedAnswer → Answered
answered_of a = record { outcome = outcome_of a.answer; head = record { written = a.written; free = a.free } }

-- ---- What the exported calls are given in plain numbers
abbrev pub flags_of : ℕ → ℕ → ℕ → ℕ → UsageFlags
flags_of exclusive uninitialized complex unknown =
    record { exclusive = exclusive; uninitialized = uninitialized; complex = complex; unknown = unknown }

-- a use of all of a texture, or of what a selector names
abbrev pub selection_of : ℕ → Selector → Option Selector
selection_of part q = if eqb part 0 then None else Some q

-- the head of the log
abbrev pub head_of : ℕ → ℕ → LogHead
head_of written free = record { written = written; free = free }
