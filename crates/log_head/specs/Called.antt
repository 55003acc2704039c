-- THE CONTRACT of a call that logs, over any view X of the sets that it is lent; and what it is check by check.
use Rattle.model.specs.Prelude.{ℕ, arith, refl, sym, ap, ◌∙◌, Bool, true, false, false≢true, Ok, List, length}
use Rattle.model.specs.declared.Refusal.TheVariants.{NotWellFormed, LogTooShort, NoFreeEntry}
use Rattle.model.specs.declared.{InvalidUse.InvalidUse, LogHead.LogHead, PendingTransition.PendingTransition, Refusal.Refusal}
use Rattle.model.specs.{Calls.{done, CallResult}, Log.{Answered, Logged, answered, is_refused, added, pending, logging}, Texture.Entry}
use Rattle.model.specs.BoolLaws.{by_lt}
use Rattle.std.specs.Prelude.{◌+◌, ◌*◌, ◌/◌, ◌≤◌, ◌<◌, ◌≡◌}
use Rattle.texture_barrier.specs.{Entries.Added, Written.{Written, written_added}}
use Rattle.log_head.specs.Log.{log_of, Logs, head_within, head_after, refused_with, moved_on, head_le, lent_is, staying, unfit, too_short}
use Rattle.log_head.specs.Log.{own_refusal, too_few, logged_on, log_stays, log_moves}
use Rattle.model.specs.Calls as calls

-- `fits` says whether every set that was handed in is well formed, m is the model's call, and `same` says that every number of the sets
-- stays
pub record Called {X : Type 0} (before after : X) (same : Type 0) (fits : Bool)
    (m : CallResult InvalidUse (List Entry) X) (h : LogHead) (l : List ℕ)
    (x : Answered) (l' : List ℕ) : Type 0 where
  pub log : Logs (logging fits (log_of l h) before m) l x l'
  pub view : after ≡ (logging fits (log_of l h) before m).after
  -- "Everything lent stays."
  pub kept : is_refused x.outcome ≡ true → same × (l' ≡ l)

-- what it does once its checks passed: `new` is what it adds to the log, and `become` the sets that it leaves
pub record Changed {X : Type 0} (before after : X) (same : Type 0) (new : List PendingTransition) (become : X)
    (h : LogHead) (l : List ℕ) (x : Answered)
    (l' : List ℕ) : Type 0 where
  pub few : h.free < length new → (x ≡ refused_with NoFreeEntry h) × ((after ≡ before) × (same × (l' ≡ l)))
  pub enough : length new ≤ h.free → (x ≡ moved_on h (length new)) × (Added l h.written new l' × (after ≡ become))

-- ---- Refused before any change
module _ {X : Type 0} {was : X} {same : Type 0} {fits : Bool} {m : CallResult InvalidUse (List Entry) X}
    {h : LogHead} {l : List ℕ} (s : same) where
  away : (r : Refusal) → logging fits (log_of l h) was m ≡ staying (log_of l h) was m r
      → Called was was same fits m h l (refused_with r h) l
  away r z = record { log = log_stays was r z; view = ap (λ (y : Logged X). y.after) (sym z); kept = λ k. (s, refl) }

  -- 4
  pub away_unfit : fits ≡ false → Called was was same fits m h l (refused_with NotWellFormed h) l
  away_unfit z = away NotWellFormed (rw z (unfit (log_of l h) was m))

  -- 5
  pub away_short : fits ≡ true → head_within (length l / 7) h ≡ false → Called was was same fits m h l (refused_with LogTooShort h) l
  away_short f z = away LogTooShort (rw f (too_short (log_of l h) was m (lent_is l h z)))

  -- 6 to 13, 16 to 19
  pub away_own : (r : Refusal) → fits ≡ true → head_within (length l / 7) h ≡ true → m.answer ≡ calls.refused r
      → Called was was same fits m h l (refused_with r h) l
  away_own r f z a = away r (rw f (own_refusal (log_of l h) was m (lent_is l h z) r a))

-- ---- 15, or done
module _ {X : Type 0} {before after : X} {same : Type 0} {fits : Bool} {m : CallResult InvalidUse (List Entry) X} {h : LogHead} {l : List ℕ}
    {x : Answered} {l' : List ℕ} where
  pub changed : fits ≡ true → head_within (length l / 7) h ≡ true → m.answer ≡ done
      → Changed before after same (pending m.log) m.after h l x l'
      → Called before after same fits m h l x l'
  changed f z a c =
      by_lt h.free (length (pending m.log))
      (λ k.
      let w = c.few k in
      let y : logging fits (log_of l h) before m ≡ staying (log_of l h) before m NoFreeEntry =
      rw f (too_few (log_of l h) before m (lent_is l h z) a k) in
      record {
        log = rw (w.0, w.1.1.1) (log_stays before NoFreeEntry y);
        view = w.1.0 ∙ ap (λ (q : Logged X). q.after) (sym y);
        kept = λ q. w.1.1;
      })
      (λ k.
      let w = c.enough k in
      let y : logging fits (log_of l h) before m ≡ record { answer = done; log = added (pending m.log) (log_of l h); after = m.after } =
      rw f (logged_on (log_of l h) before m (lent_is l h z) a k) in
      record {
        log = rw w.0 (log_moves h m.after (pending m.log) y refl w.1.0);
        view = w.1.1 ∙ ap (λ (q : Logged X). q.after) (sym y);
        kept = λ q. absurd (false≢true (rw w.0 at q));
      })

-- ---- Counted, and written where they fit
-- what fits in what is free fits where it is written
pub room_for : (h : LogHead) (l : List ℕ) (new : List PendingTransition) → head_within (length l / 7) h ≡ true → length new ≤ h.free
    → 7 * (h.written + length new) ≤ length l
room_for h l new f k = omega (arith, head_le (length l / 7) h f)

-- they fit and are written; h' is the head then
pub record Wrote (new : List PendingTransition) (h : LogHead) (l : List ℕ) (h' : LogHead) (l' : List ℕ) : Type 0 where
  pub fits : length new ≤ h.free
  pub head : h' ≡ head_after h (length new)
  pub into : Added l h.written new l'

-- as the code finds it: the head fits, the entries fit, and they are written
pub wrote : {new : List PendingTransition} {h : LogHead} {l : List ℕ} {h' : LogHead} {l₁ l' : List ℕ} → head_within (length l / 7) h ≡ true
    → length new ≤ h.free → Written l h.written new l₁ → l' ≡ l₁ → h' ≡ head_after h (length new) → Wrote new h l h' l'
wrote {new} {h} {l} f le w same e = record { fits = le; head = e; into = rw same (written_added (room_for h l new f le) w) }

module _ {X : Type 0} {before after : X} {same : Type 0} {new : List PendingTransition} {become : X} {h : LogHead} {l : List ℕ} where
  -- they do not fit
  pub not_enough : after ≡ before → same → h.free < length new → Changed before after same new become h l (refused_with NoFreeEntry h) l
  not_enough e s k = record { few = λ q. (refl, (e, (s, refl))); enough = λ q. absurd (omega arith) }

  -- they are written, and the sets change
  pub written : {h' : LogHead} {l' : List ℕ} → Wrote new h l h' l' → after ≡ become
      → Changed before after same new become h l (answered h (Ok h')) l'
  written w q = record {
    few = λ z. absurd (omega (arith, w.fits));
    enough =
        λ z. (ap (λ (x : LogHead). answered h (Ok x)) w.head, (w.into, q));
  }
