-- The log of a step: emptied, it fits and is empty; a call of the model then runs as if there were no log; and its entries tell the model's
-- transitions.
use Rattle.std.specs.Prelude.{◌+◌, ◌≤◌, ◌≡◌, ◌&&◌, ◌∷◌, ◌++◌, if◌then◌else◌}
use Rattle.model.specs.Prelude.{ℕ, zero-add, arith, refl, ap, ◌∙◌, Bool, true, false, Option, None, Some, List, []}
use Rattle.model.specs.Prelude.{append_assoc, eqb, length, take, le-ltb, Ok}
use Rattle.model.specs.declared.{InvalidUse.InvalidUse, LogHead.LogHead, PendingTransition.PendingTransition, Refusal.Refusal}
use Rattle.model.specs.{Representation.holds, Refusals.first_failing}
use Rattle.model.specs.{Calls.{Indexed, done, CallResult, unless}, StateRules.Move, Texture.Entry}
use Rattle.model.specs.Log.{Answered, Log, Logged, pending_of, pending, head_check, emptied, emptying, logging, outcome_of}
use Rattle.texture_barrier.specs.Entries.{entries_of}
use Rattle.log_head.specs.Log.{log_of, Logs}
use Rattle.agreement.specs.{Shared.{entries_at, logged_at}, LogBound.entries}
use Rattle.agreement.proofs.LogRoom.{entries_written}
use Rattle.track.specs.Trace.{transitions_at}

-- ---- Emptying
pub record Empty (log : Log) : Type 0 where
  pub fits : (head_check log).fails ≡ false
  pub none : log.head.written ≡ 0

emptied_is : (log : Log) → (head_check log).fails ≡ false → emptying log ≡ record { answer = done; log = emptied log; after = tt }
unfolding emptying first_failing
emptied_is log e = rw e

-- the head that it leaves
pub emptied_head : (l : List ℕ) (h : LogHead) (x : Answered) → h.written + h.free ≤ length (entries_of l)
    → Logs (emptying (log_of l h)) l x l
    → x.head ≡ record { written = 0; free = h.free + h.written }
emptied_head l h x room c =
    c.head ∙ ap (λ (r : Logged (Unit {0})). r.log.head) (emptied_is (log_of l h)
    (le-ltb (length (entries_of l)) (h.written + h.free) room))

pub empty_log : (l : List ℕ) (h : LogHead) (x : Answered) → h.written + h.free ≤ length (entries_of l) → Logs (emptying (log_of l h)) l x l
    → (x.outcome ≡ Ok tt) × Empty (log_of l x.head)
empty_log l h x room c =
    let e = emptied_is (log_of l h) (le-ltb (length (entries_of l)) (h.written + h.free) room) in
    let d = emptied_head l h x room c in (
      c.answer ∙ ap (λ (r : Logged (Unit {0})). outcome_of r.answer) e,
      record {
        fits = rw d (le-ltb (length (entries_of l)) (0 + (h.free + h.written)) (omega arith));
        none = ap (λ (r : LogHead). r.written) d;
      },
    )

-- ---- A call that is handed well-formed sets and such a log
take_new : (new rest : List PendingTransition) → take (length new) (new ++ rest) ≡ new
take_new [] rest = refl
take_new (x ∷ new) rest = rw (take_new new rest)

module _ {X : Type 0} (log : Log) (was : X) where
  -- it runs as if there were none
  pub record AsOwn (r : CallResult InvalidUse (List Entry) X) : Type 0 where
    pub answer : (logging true log was r).answer ≡ r.answer
    pub after : (logging true log was r).after ≡ r.after
    pub entries : take (logging true log was r).log.head.written (logging true log was r).log.entries ≡ pending r.log

  pub as_own : (o : Option Refusal) (out : CallResult InvalidUse (List Entry) X) → out.answer ≡ done → Empty log
      → entries (unless o was out).log ≤ log.head.free → AsOwn (unless o was out)
  unfolding logging first_failing
  as_own (Some r) out d e room = record { answer = rw e.fits; after = rw e.fits; entries = rw (e.fits, e.none) }
  as_own None out d e room =
      let f = le-ltb log.head.free (length (pending out.log)) (rw (entries_written out.log) room) in
      record {
        answer = rw (e.fits, d, f);
        after = rw (e.fits, d, f);
        entries = rw (e.fits, d, f, e.none, zero-add) (take_new (pending out.log) _);
      }

-- ---- The transitions of a subresource, entry by entry
module _ (i m l : ℕ) where
  one_more : (b c : Bool) (x : Move) (rest : List Move)
      → (if b && c then x ∷ [] else []) ++ (if b then rest else []) ≡ (if b then (if c then x ∷ [] else []) ++ rest else [])
  one_more true c x rest = refl
  one_more false c x rest = refl

  no_more : (b : Bool) → ◌≡◌ {A = List Move} [] (if b then [] else [])
  no_more true = refl
  no_more false = refl

  -- the entries of one texture, at index k
  of_texture_lem : (k : ℕ) (es : List Entry)
      → transitions_at i m l (pending_of (record { index = k; what = es })) ≡ (if eqb k i then entries_at m l es else [])
  of_texture_lem k [] = no_more (eqb k i)
  of_texture_lem k (e ∷ es) = rw (of_texture_lem k es) (one_more (eqb k i) (holds e.selector m l) e.move (entries_at m l es))

  transitions_append : (x y : List PendingTransition) → transitions_at i m l (x ++ y) ≡ transitions_at i m l x ++ transitions_at i m l y
  transitions_append [] y = refl
  transitions_append (e ∷ x) y = rw (transitions_append x y, append_assoc)

  pub transitions_logged : (log : List (Indexed (List Entry))) → transitions_at i m l (pending log) ≡ logged_at i m l log
  transitions_logged [] = refl
  transitions_logged (x ∷ log) = transitions_append (pending_of x) (pending log)
      ∙ rw (of_texture_lem x.index x.what, transitions_logged log)
