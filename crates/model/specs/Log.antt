-- The log (01: the Rust's `temp`), and the calls whole: what is lent is checked first, and the room of the log last.
use Rattle.std.specs.Prelude.{◌+◌, ◌-◌, ◌∷◌, ◌++◌}
use Rattle.model.specs.Prelude.{ℕ, Bool, true, false, not, Option, None, Some, Result, Ok, Err, List, [], map, ltb, length, take}
use Rattle.model.specs.Prelude.{drop, result_unwrap_or}
use Rattle.model.specs.declared.Refusal.TheVariants.{NotWellFormed, LogTooShort, NoFreeEntry}
use Rattle.model.specs.declared.CallError.TheVariants.{Refused, Conflict}
use Rattle.model.specs.declared.{PendingTransition.PendingTransition, LogHead.LogHead, InvalidUse.InvalidUse, Refusal.Refusal}
use Rattle.model.specs.{declared.CallError.CallError, Base.each, Refusals.{Check, check, first_failing, tracker_index}}
use Rattle.model.specs.{Calls.{Indexed, Answer, done, refused, in_conflict, CallResult, unless}, Texture.Entry}

-- ---- The answer of a public call
-- done, or why it is not, as the code answers it
abbrev pub Outcome : Type 0
Outcome = Result (Unit {0}) CallError

-- the answer of the model's call as the code's
abbrev pub outcome_of : Answer InvalidUse → Outcome
outcome_of done = Ok tt
outcome_of (refused r) = Err (Refused r)
outcome_of (in_conflict c) = Err (Conflict (record { index = tracker_index c.index; found = c.what }))

-- whether a call was refused
abbrev pub is_refused : Outcome → Bool
is_refused (Ok u) = false
is_refused (Err (Refused r)) = true
is_refused (Err (Conflict c)) = false

-- what a call that meets no conflict answers
abbrev pub verdict : Option Refusal → Outcome
verdict None = Ok tt
verdict (Some r) = Err (Refused r)

-- the outcome of a call that can only be refused, whatever else it tells
abbrev pub unless_refused : {A : Type 0} → Result A Refusal → Outcome
unless_refused (Ok x) = Ok tt
unless_refused (Err r) = Err (Refused r)

-- the outcome of a call that moves the head of a log, and the head after it: a refusal leaves the head as it was
pub record Answered : Type 0 where
  pub outcome : Outcome
  pub head : LogHead

-- as the code answers it, which was told the head h
abbrev pub answered : LogHead → Result LogHead Refusal → Answered
answered h r = record { outcome = unless_refused r; head = result_unwrap_or r h }

-- ---- A log
-- every entry that was lent, and the head
pub record Log : Type 0 where
  pub entries : List PendingTransition
  pub head : LogHead

-- what a call adds for one index, as the Rust's `PendingTransition`
abbrev pub pending_of : Indexed (List Entry) → List PendingTransition
pending_of x =
    map (λ (e : Entry). record { index = tracker_index x.index; selector = e.selector; old = e.move.old; new = e.move.new })
    x.what

-- all that a call adds, in its order
abbrev pub pending : List (Indexed (List Entry)) → List PendingTransition
pending log = each pending_of log

-- "calls add after what is written"
abbrev pub added : List PendingTransition → Log → Log
added new log =
    let w = log.head.written in record {
      entries = take w log.entries ++ (new ++ drop (w + length new) log.entries);
      head = record { written = w + length new; free = log.head.free - length new };
    }

-- ---- 4, 5 and 15
-- "a set is not sound"
abbrev pub sets_check : Bool → Check
sets_check fits = check (not fits) NotWellFormed

-- "the log's head tells more entries, written and free together, than were lent"
abbrev pub head_check : Log → Check
head_check log = check (ltb (length log.entries) (log.head.written + log.head.free)) LogTooShort

-- "the result needs more entries than are free"
abbrev pub free_check : ℕ → Log → Check
free_check needed log = check (ltb log.head.free needed) NoFreeEntry

-- ---- A merge
-- a merge handed sets of which `fits` says whether all are well formed: 4 comes before its own checks
unfoldable pub merging : {X : Type 0} → Bool → X → CallResult InvalidUse (List Entry) X → CallResult InvalidUse (List Entry) X
unfolding first_failing
merging fits was r = unless (first_failing (sets_check fits ∷ [])) was r

-- ---- A tracker's call
-- its answer, and the log and what it was handed as they are afterwards
pub record Logged (X : Type 0) : Type 0 where
  pub answer : Answer InvalidUse
  pub log : Log
  pub after : X

-- where the call is refused "Everything lent stays", the log too
abbrev pub unless_logged : {X : Type 0} → Option Refusal → Log → X → Logged X → Logged X
unless_logged (Some r) log was out = record { answer = refused r; log = log; after = was }
unless_logged None log was out = out

-- the call's own refusals stand between 5 and 15
abbrev pub refusal_of : {C : Type 0} → Answer C → List Check → Option Refusal
refusal_of done more = first_failing more
refusal_of (refused r) more = Some r
refusal_of (in_conflict c) more = first_failing more

-- the first of two refusals, in the table's order
abbrev pub or_next : Option Refusal → Option Refusal → Option Refusal
or_next (Some r) next = Some r
or_next None next = next

-- a call handed such sets and a log: 4 and 5 come before its own checks, 15 after them
unfoldable pub logging : {X : Type 0} → Bool → Log → X → CallResult InvalidUse (List Entry) X → Logged X
unfolding first_failing
logging fits log was r =
    let new = pending r.log in
    unless_logged (or_next (first_failing (sets_check fits ∷ head_check log ∷ [])) (refusal_of r.answer (free_check (length new) log ∷ [])))
    log was
    (record { answer = r.answer; log = added new log; after = r.after })

-- ---- Emptying
-- "free gains what was written, written becomes 0, entries stay"
abbrev pub emptied : Log → Log
emptied log = record { entries = log.entries; head = record { written = 0; free = log.head.free + log.head.written } }

-- the call: 5 is the only check, as it is handed a log and no set
unfoldable pub emptying : Log → Logged (Unit {0})
unfolding first_failing
emptying log = unless_logged (first_failing (head_check log ∷ [])) log tt (record { answer = done; log = emptied log; after = tt })
