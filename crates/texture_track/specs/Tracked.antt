-- THE CONTRACT of a tracker's call: the answer, and the content of what was lent; and what it is check by check.
use Rattle.std.specs.Prelude.{◌/◌, ◌≡◌}
use Rattle.model.specs.Prelude.{ℕ, refl, Bool, true, false, List, length}
use Rattle.model.specs.declared.Refusal.TheVariants.{NotWellFormed, LogTooShort}
use Rattle.model.specs.declared.{InvalidUse.InvalidUse, LogHead.LogHead, PendingTransition.PendingTransition}
use Rattle.model.specs.{declared.Refusal.Refusal, Sets.Tracker, Calls.{CallResult, done}, Log.pending, Texture.{Held, Entry}}
use Rattle.set_storage.specs.{Storage.{numbers_of, tracker_of}, Lent.LentTracker, Stays.{TrackerFrame, both_refl}}
use Rattle.set_ready.specs.Named.{Within}
use Rattle.log_head.specs.{Log.{head_within, refused_with}, Called.{Called, Changed, changed}}
use Rattle.model.specs.Calls as calls
use Rattle.log_head.specs.Called as called
use Rattle.model.specs.Log.{Answered}

-- every number of a tracker stays
abbrev pub Same : (t s e t' s' e' : List ℕ) → Type 0
Same t s e t' s' e' = (t' ≡ t) × ((s' ≡ s) × (e' ≡ e))

-- `fits` says whether every set that was handed in is well formed, `m` is the model's call, and `named` are the indices that the call
-- names. All that is lent stays but the words and the ranges of those: "More room is ignored". Free, and in no view, is only what is
-- unused inside them: which nonzero number marks one as owned, the counts and the ranges of a Single half, counts and ranges of mips that
-- the texture does not have, and the ranges past a count.
pub record Tracked (named : ℕ → Type 0) (fits : Bool) (m : CallResult InvalidUse (List Entry) (Tracker Held))
    (h : LogHead) (t s e l : List ℕ)
    (x : Answered) (t' s' e' l' : List ℕ) : Type 0 where
  pub call : Called (tracker_of t s e) (tracker_of t' s' e') (Same t s e t' s' e') fits m h l x l'
  -- every number of what is lent stays but those of the named textures
  pub stays : TrackerFrame (Within t named) (numbers_of t) t s e t' s' e'

-- what it does once its checks passed: `new` is what it adds to the log, and `become` the tracker that it leaves
pub record Changes (named : ℕ → Type 0) (new : List PendingTransition) (become : Tracker Held) (h : LogHead) (t s e l : List ℕ)
    (x : Answered) (t' s' e' l' : List ℕ) : Type 0 where
  pub change : Changed (tracker_of t s e) (tracker_of t' s' e') (Same t s e t' s' e') new become h l x l'
  pub frame : TrackerFrame (Within t named) (numbers_of t) t s e t' s' e'

-- ---- Check by check
module _ {named : ℕ → Type 0} {fits : Bool} {m : CallResult InvalidUse (List Entry) (Tracker Held)} {h : LogHead} {t s e l : List ℕ} where
  -- 4
  pub away_unfit : fits ≡ false → Tracked named fits m h t s e l (refused_with NotWellFormed h) t s e l
  away_unfit z = record { call = called.away_unfit (refl, (refl, refl)) z; stays = both_refl t s e }

  -- 5
  pub away_short : fits ≡ true → head_within (length l / 7) h ≡ false → Tracked named fits m h t s e l (refused_with LogTooShort h) t s e l
  away_short f z = record { call = called.away_short (refl, (refl, refl)) f z; stays = both_refl t s e }

  -- 6 to 13, 16 to 19
  pub away_own : (r : Refusal) → fits ≡ true → head_within (length l / 7) h ≡ true → m.answer ≡ calls.refused r
      → Tracked named fits m h t s e l (refused_with r h) t s e l
  away_own r f z a = record { call = called.away_own (refl, (refl, refl)) r f z a; stays = both_refl t s e }

  -- 15, or done
  pub changes_tracked : {x : Answered} {t' s' e' l' : List ℕ} → fits ≡ true → head_within (length l / 7) h ≡ true → m.answer ≡ done
      → Changes named (pending m.log) m.after h t s e l x t' s' e' l' → Tracked named fits m h t s e l x t' s' e' l'
  changes_tracked f z a c = record { call = changed f z a c.change; stays = c.frame }

-- ---- The same of a tracker as it is lent, with a log l and its head h
abbrev pub TrackerCall : (ℕ → Type 0) → Bool → CallResult InvalidUse (List Entry) (Tracker Held) → LentTracker → LogHead → List ℕ → Answered
    → LentTracker → List ℕ → Type 0
TrackerCall named fits m t h l x t' l' = Tracked named fits m h t.table t.starts t.ends l x t'.table t'.starts t'.ends l'
