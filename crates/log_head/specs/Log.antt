-- The log that a call is lent, what the call answers, and what the model's `logging` gives check by check: refused by the test, by the
-- log's head, by its own checks or for want of entries; or done.
use Rattle.std.specs.Prelude.{◌+◌, ◌-◌, ◌/◌, ◌≤◌, ◌<◌, ◌≡◌}
use Rattle.model.specs.Prelude.{ℕ, refl, sym, ap, ◌∙◌, Bool, true, false, not, Ok, Err, List, ltb, length, lt-ltb}
use Rattle.model.specs.Prelude.{le-ltb, ltb-false, not-true, not-false}
use Rattle.model.specs.declared.Refusal.TheVariants.{NotWellFormed, LogTooShort, NoFreeEntry}
use Rattle.model.specs.declared.CallError.TheVariants.{Refused}
use Rattle.model.specs.declared.{InvalidUse.InvalidUse, LogHead.LogHead, PendingTransition.PendingTransition, Refusal.Refusal}
use Rattle.model.specs.{Refusals.first_failing, Calls.{done, CallResult}}
use Rattle.model.specs.{Log.{Answered, Log, Logged, added, pending, outcome_of, logging, emptying}, Texture.Entry}
use Rattle.texture_barrier.specs.Entries.{entries_of, unused, entries_long, Added}
use Rattle.model.specs.Calls as calls

-- a borrowed log, with the head that its caller tells
abbrev pub log_of : List ℕ → LogHead → Log
log_of l h = record { entries = entries_of l; head = h }

-- the answer, the head and the entries are those of c; the numbers after the last full entry stay
pub record Logs {X : Type 0} (c : Logged X) (l : List ℕ) (x : Answered) (l' : List ℕ) : Type 0 where
  pub answer : x.outcome ≡ outcome_of c.answer
  pub head : x.head ≡ c.log.head
  pub entries : entries_of l' ≡ c.log.entries
  pub unused : unused l' ≡ unused l
  pub long : length l' ≡ length l

-- 5 passes: "the log's head tells more entries, written and free together, than were lent"
abbrev pub head_within : ℕ → LogHead → Bool
head_within lent h = not (ltb lent (h.written + h.free))

-- turned away: "Everything lent stays."
abbrev pub refused_with : Refusal → LogHead → Answered
refused_with r h = record { outcome = Err (Refused r); head = h }

-- the head after n entries more
abbrev pub head_after : LogHead → ℕ → LogHead
head_after h n = record { written = h.written + n; free = h.free - n }

-- done, with n entries more
abbrev pub moved_on : LogHead → ℕ → Answered
moved_on h n = record { outcome = Ok tt; head = head_after h n }

-- as the code counts the entries that were lent
pub lent_is : (l : List ℕ) (h : LogHead) {b : Bool} → head_within (length l / 7) h ≡ b → head_within (length (entries_of l)) h ≡ b
lent_is l h z = rw (entries_long l) z

pub head_le : (lent : ℕ) (h : LogHead) → head_within lent h ≡ true → h.written + h.free ≤ lent
head_le lent h e = ltb-false lent (h.written + h.free) (not-true _ e)

-- ---- What `logging` gives, check by check
module _ {X : Type 0} (log : Log) (was : X) (m : CallResult InvalidUse (List Entry) X) where
  -- it stays as it was
  abbrev pub staying : Refusal → Logged X
  staying r = record { answer = calls.refused r; log = log; after = was }

  pub unfit : logging false log was m ≡ staying NotWellFormed
  unfolding logging first_failing
  unfit = refl

  pub too_short : head_within (length log.entries) log.head ≡ false → logging true log was m ≡ staying LogTooShort
  unfolding logging first_failing
  too_short e = let z : ltb (length log.entries) (log.head.written + log.head.free) ≡ true = not-false _ e in rw z

  module _ (h : head_within (length log.entries) log.head ≡ true) where
    fits : ltb (length log.entries) (log.head.written + log.head.free) ≡ false
    fits = not-true _ h

    pub own_refusal : (r : Refusal) → m.answer ≡ calls.refused r → logging true log was m ≡ staying r
    unfolding logging first_failing
    own_refusal r e = rw (fits, e)

    pub too_few : m.answer ≡ done → log.head.free < length (pending m.log) → logging true log was m ≡ staying NoFreeEntry
    unfolding logging first_failing
    too_few e l = rw (fits, e, lt-ltb log.head.free (length (pending m.log)) l)

    pub logged_on : m.answer ≡ done → length (pending m.log) ≤ log.head.free
        → logging true log was m ≡ record { answer = done; log = added (pending m.log) log; after = m.after }
    unfolding logging first_failing
    logged_on e l = rw (fits, e, le-ltb log.head.free (length (pending m.log)) l)

-- ---- The contract on the log
pub log_stays : {X : Type 0} {c : Logged X} {l : List ℕ} {h : LogHead} (was : X) (r : Refusal)
    → c ≡ record { answer = calls.refused r; log = log_of l h; after = was } → Logs c l (refused_with r h) l
log_stays {X} {c} {l} {h} was r e = record {
  answer = ap (λ (y : Logged X). outcome_of y.answer) (sym e);
  head = ap (λ (y : Logged X). y.log.head) (sym e);
  entries = ap (λ (y : Logged X). y.log.entries) (sym e);
  unused = refl;
  long = refl;
}

pub log_moves : {X : Type 0} {c : Logged X} {l : List ℕ} (h : LogHead) {l' : List ℕ} {n : ℕ} (after : X) (new : List PendingTransition)
    → c ≡ record { answer = done; log = added new (log_of l h); after = after } → n ≡ length new
    → Added l h.written new l' → Logs c l (moved_on h n) l'
log_moves {X} {c} {l} h {l'} {n} after new e z a = record {
  answer = ap (λ (y : Logged X). outcome_of y.answer) (sym e);
  head = rw z (ap (λ (y : Logged X). y.log.head) (sym e));
  entries = a.entries ∙ ap (λ (y : Logged X). y.log.entries) (sym e);
  unused = a.rest;
  long = a.long;
}

-- ---- Emptying: "free gains what was written, written becomes 0, entries stay"
-- what it answers where the head fits
abbrev pub emptied_with : LogHead → Answered
emptied_with h = record { outcome = Ok tt; head = record { written = 0; free = h.free + h.written } }

module _ (l : List ℕ) (h : LogHead) where
  pub empty_away : head_within (length l / 7) h ≡ false → Logs (emptying (log_of l h)) l (refused_with LogTooShort h) l
  unfolding emptying first_failing
  empty_away e =
      let z : ltb (length (entries_of l)) (h.written + h.free) ≡ true = not-false _ (lent_is l h e) in
      rw z (record { answer = refl; head = refl; entries = refl; unused = refl; long = refl })

  pub empty_done : head_within (length l / 7) h ≡ true → Logs (emptying (log_of l h)) l (emptied_with h) l
  unfolding emptying first_failing
  empty_done e = let z : ltb (length (entries_of l)) (h.written + h.free) ≡ false = not-true _ (lent_is l h e) in
      rw z (record { answer = refl; head = refl; entries = refl; unused = refl; long = refl })

-- THE CONTRACT of emptying: the log is only read
abbrev pub Emptying : LogHead → List ℕ → Answered → Type 0
Emptying h l x = Logs (emptying (log_of l h)) l x l
