-- THE CONTRACT of the sparse call: the answer, and the content of what was lent; and what it is check by check.
use Rattle.model.specs.Prelude.{ℕ, refl, sym, ap, ◌∙◌, Bool, true, false, false≢true, List, length}
use Rattle.model.specs.declared.Refusal.TheVariants.{NotWellFormed, LogTooShort}
use Rattle.model.specs.declared.{InvalidUse.InvalidUse, LogHead.LogHead, PendingTransition.PendingTransition}
use Rattle.model.specs.{declared.Refusal.Refusal, Sets.{Set, Tracker}, Calls.{CallResult, done, set_and_remove_sparse}}
use Rattle.model.specs.{Log.{Answered, is_refused, pending}, Texture.{Held, Entry, ranged}, BoolLaws.by_lt}
use Rattle.std.specs.Prelude.{◌/◌, ◌≤◌, ◌≡◌, ◌&&◌}
use Rattle.set_storage.specs.Storage.{numbers_of, scope_of, tracker_of}
use Rattle.set_storage.specs.Lent.{LentScope, LentTracker, scope_in, tracker_in, scope_test, tracker_test}
use Rattle.set_storage.specs.Stays.{TrackerFrame, both_refl}
use Rattle.set_ready.specs.Named.{Within}
use Rattle.log_head.specs.{Log.{head_within, refused_with}, Called.{Called, Changed, changed}}
use Rattle.texture_track.specs.Tracked.{Same}
use Rattle.call_remove.specs.Gone.{Listed, disowned}
use Rattle.model.specs.Calls as calls
use Rattle.log_head.specs.Called as called

-- a tracker and a scope
abbrev pub Both : Type 0
Both = Tracker Held × Set Held

-- the tracker t with the ranges s and e, and the scope g with the ranges r
abbrev pub sets_of : List ℕ → List ℕ → List ℕ → List ℕ → List ℕ → Both
sets_of t s e g r = (tracker_of t s e, scope_of g r)

-- The scope's ranges are only read, and `is` is the list. What is free of the tracker is what is free in `Tracked`, with what is listed and
-- owned named; of the scope nothing is.
pub record Removed (is : List ℕ) (fits : Bool) (m : CallResult InvalidUse (List Entry) Both) (h : LogHead) (t s e g r l : List ℕ)
    (x : Answered) (t' s' e' g' l' : List ℕ) : Type 0 where
  pub call : Called (sets_of t s e g r) (sets_of t' s' e' g' r) ((g' ≡ g) × Same t s e t' s' e') fits m h l x l'
  -- "the scope no longer owns the listed indices; their states and shapes in it stay"
  pub gone : is_refused x.outcome ≡ false → g' ≡ disowned is g
  -- every number of the tracker stays but those of the textures that are listed and owned
  pub stays : TrackerFrame (Within t (Listed is g)) (numbers_of t) t s e t' s' e'

-- what it does once its checks passed: `new` is what it adds to the log, and `become` the sets that it leaves
pub record Removes (is : List ℕ) (new : List PendingTransition) (become : Both) (h : LogHead) (t s e g r l : List ℕ)
    (x : Answered) (t' s' e' g' l' : List ℕ) : Type 0 where
  pub change : Changed (sets_of t s e g r) (sets_of t' s' e' g' r) ((g' ≡ g) × Same t s e t' s' e') new become h l x l'
  pub gone : length new ≤ h.free → g' ≡ disowned is g
  pub frame : TrackerFrame (Within t (Listed is g)) (numbers_of t) t s e t' s' e'

-- ---- Check by check
module _ {is : List ℕ} {fits : Bool} {m : CallResult InvalidUse (List Entry) Both} {h : LogHead} {t s e g r l : List ℕ} where
  away : {y : Refusal} → Called (sets_of t s e g r) (sets_of t s e g r) ((g ≡ g) × Same t s e t s e) fits m h l (refused_with y h) l
      → Removed is fits m h t s e g r l (refused_with y h) t s e g l
  away c = record { call = c; gone = λ k. absurd (false≢true (sym k)); stays = both_refl t s e }

  -- 4
  pub away_unfit : fits ≡ false → Removed is fits m h t s e g r l (refused_with NotWellFormed h) t s e g l
  away_unfit z = away (called.away_unfit (refl, (refl, (refl, refl))) z)

  -- 5
  pub away_short : fits ≡ true → head_within (length l / 7) h ≡ false
      → Removed is fits m h t s e g r l (refused_with LogTooShort h) t s e g l
  away_short f z = away (called.away_short (refl, (refl, (refl, refl))) f z)

  -- 6 to 9
  pub away_own : (y : Refusal) → fits ≡ true → head_within (length l / 7) h ≡ true → m.answer ≡ calls.refused y
      → Removed is fits m h t s e g r l (refused_with y h) t s e g l
  away_own y f z a = away (called.away_own (refl, (refl, (refl, refl))) y f z a)

  -- 15, or done
  pub removes_removed : {x : Answered} {t' s' e' g' l' : List ℕ} → fits ≡ true → head_within (length l / 7) h ≡ true → m.answer ≡ done
      → Removes is (pending m.log) m.after h t s e g r l x t' s' e' g' l' → Removed is fits m h t s e g r l x t' s' e' g' l'
  removes_removed {x} f z a c = record {
    call = changed f z a c.change;
    gone = λ q. by_lt h.free (length (pending m.log))
        (λ k. absurd (false≢true (sym q ∙ ap (λ (y : Answered). is_refused y.outcome) (c.change.few k).0))) c.gone;
    stays = c.frame;
  }

-- ---- `set_and_remove_from_usage_scope_sparse`, of what is lent: the scope's table becomes g', its ranges are only read
abbrev pub SetAndRemoveSparse : LentTracker → LentScope → List ℕ → LogHead → List ℕ → Answered → LentTracker → List ℕ → List ℕ → Type 0
SetAndRemoveSparse t g is h l x t' g' l' =
    Removed is (tracker_test t && scope_test g) (set_and_remove_sparse ranged (tracker_in t) (scope_in g) is)
    h t.table t.starts t.ends g.table g.ranges l x t'.table t'.starts t'.ends g' l'
