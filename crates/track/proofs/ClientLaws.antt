-- The client's calls are a trace: newly opened, the log emptied before each of two calls, with a free entry for every subresource.
use Rattle.model.specs.Prelude.{ℕ, min, le_trans, le-min, arith, refl, sym, ap, subst, ◌∙◌, Bool, true, false, Option, None, Some, List, []}
use Rattle.model.specs.Prelude.{ltb, length, le-ltb, ltb-false}
use Rattle.model.specs.declared.Refusal.TheVariants.{NoFreeEntry}
use Rattle.model.specs.declared.{Extent.Extent, InvalidUse.InvalidUse, LogHead.LogHead, Refusal.Refusal, Selector.Selector}
use Rattle.model.specs.{declared.{TrackerIndex.TrackerIndex}, Flags.flags_fit, Sets.{Numbers, Tracker, capacity}}
use Rattle.model.specs.Refusals.{first_failing, opening_refusal, opens}
use Rattle.model.specs.Calls.{Answer, done, refused, in_conflict, CallResult, Call, call_set_single, set_single}
use Rattle.model.specs.Texture.{Held, Entry, ranged}
use Rattle.model.specs.Log.{Log, Logged, pending, logging, unless_logged, refusal_of, or_next, sets_check, head_check, free_check, Outcome}
use Rattle.std.specs.Prelude.{◌+◌, ◌/◌, ◌≤◌, ◌≡◌, ◌∷◌, if◌then◌else◌}
use Rattle.set_storage.specs.{Storage.{numbers_of, tracker_of, textures_at, mip_limit_at, layer_limit_at}, Slots.tracker_head}
use Rattle.set_storage.specs.Lent.{LentTracker, tracker_in, tracker_test}
use Rattle.texture_barrier.specs.Entries.{entries_of, entries_long}
use Rattle.agreement.specs.{WellFormedSets.Word, LogBound.{capacity_of, owned_of}}
use Rattle.agreement.proofs.Claims.{owned_within}
use Rattle.call_open.specs.Open.{OpenedTracker}
use Rattle.track.specs.Trace.{Lent, view_of, Ready, TrackerOpening, tracker_asked, opened_sets, Step, Meets, Trace, SharedAt}
use Rattle.track.specs.Client.{client_flags, client_asked, client_run, client_step}
use Rattle.track.proofs.{LogLaws.emptied_head, OpenedLaws.{tracker_done, opened_ready}, TraceLaws.{ready_after, ready_fits}}
use Rattle.track.proofs.Demand3.{demand3}
use Rattle.log_head.specs.Log.{log_of, Emptying}
use Rattle.call_set.specs.Contract.{SetSingle}
use Rattle.model.specs.Log.{Answered}

-- ---- A call that logs moves the head on: written and free stay the same together
module _ {X : Type 0} (log : Log) (was : X) (r : CallResult InvalidUse (List Entry) X) where
  abbrev sum : LogHead → ℕ
  sum h = h.written + h.free

  later : (a b : Option Refusal) → or_next a b ≡ None → b ≡ None
  later None b e = e
  later (Some x) b e = absurd (let z : ◌≡◌ {A = ℕ} 0 1 = cc in omega arith)

  -- 15 is not given, so the entries fit
  fits_in : (n : ℕ) (b : Bool) → ltb log.head.free n ≡ b → (if b then Some NoFreeEntry else None) ≡ None → n ≤ log.head.free
  fits_in n true e z = absurd (let y : ◌≡◌ {A = ℕ} 0 1 = cc in omega arith)
  fits_in n false e z = ltb-false log.head.free n e

  enough : (a : Answer InvalidUse) (n : ℕ) → refusal_of a (free_check n log ∷ []) ≡ None → n ≤ log.head.free
  unfolding first_failing
  enough done n e = fits_in n (ltb log.head.free n) refl e
  enough (refused x) n e = absurd (let z : ◌≡◌ {A = ℕ} 0 1 = cc in omega arith)
  enough (in_conflict c) n e = fits_in n (ltb log.head.free n) refl e

  moved : (o : Option Refusal) (out : Logged X) → (o ≡ None → sum out.log.head ≡ sum log.head)
      → sum (unless_logged o log was out).log.head ≡ sum log.head
  moved None out h = h refl
  moved (Some x) out h = refl

  pub head_sum : (fits : Bool) → sum (logging fits log was r).log.head ≡ sum log.head
  unfolding logging
  head_sum fits =
      let n = length (pending r.log) in
      moved (or_next (first_failing (sets_check fits ∷ head_check log ∷ [])) (refusal_of r.answer (free_check n log ∷ []))) _
      (λ e. omega (arith, enough r.answer n (later (first_failing (sets_check fits ∷ head_check log ∷ [])) _ e)))

-- ---- The opening is done
client_opens : (room : ℕ) → 8 ≤ room → opens (client_asked room) ≡ true
unfolding opening_refusal first_failing flags_fit
client_opens room h = rw (le-ltb room 8 h)

-- ---- A tracker of the client's numbers needs no more than eight free entries
abbrev tracker : List ℕ → List ℕ → List ℕ → LentTracker
tracker t s e = record { table = t; starts = s; ends = e }

abbrev alone : LentTracker → Lent
alone t = record { scopes = []; trackers = t ∷ [] }

few_in_all : (d : Numbers) → d ≡ record { textures = 1; mips = 2; layers = 4 } → capacity d ≤ 8
few_in_all d e = rw e (omega arith)

few_owned : (c : Call) (t : LentTracker) → Ready (alone t) → capacity_of c (view_of (alone t)) ≤ 8 → owned_of c (view_of (alone t)) ≤ 8
few_owned c t ready e = le_trans (owned_within c (view_of (alone t)) (ready_fits (alone t) ready)) e

-- ---- The two calls
module _ {t₀ s₀ e₀ : List ℕ} {x : Outcome} {t₁ : List ℕ}
    (o : OpenedTracker t₀ s₀ e₀ 1 2 4 client_flags 10 x t₁) (starts : 8 ≤ length s₀ / 3)
    (ends : 8 ≤ length e₀ / 3) where
  abbrev opening : TrackerOpening
  opening = record {
    table = t₀;
    starts = s₀;
    ends = e₀;
    textures = 1;
    mips = 2;
    layers = 4;
    flags = client_flags;
    mask = 10;
    outcome = x;
    opened = t₁;
    meets = o;
  }

  is_open : opens (tracker_asked opening) ≡ true
  is_open = client_opens (min (length s₀ / 3) (length e₀ / 3)) (le-min starts ends)

  opened_is : opened_sets [] (opening ∷ []) ≡ alone (tracker t₁ s₀ e₀)
  opened_is = rw (tracker_done opening ∙ is_open)

  ready₁ : Ready (alone (tracker t₁ s₀ e₀))
  ready₁ = subst Ready opened_is (opened_ready [] (opening ∷ []))

  numbers₁ : numbers_of t₁ ≡ record { textures = 1; mips = 2; layers = 4 }
  unfolding tracker_of
  numbers₁ = ap (λ (t : Tracker Held). t.set.numbers) (o.view is_open)

  module _ (l₀ : List ℕ) (lent : 8 ≤ length l₀ / 7) (i : TrackerIndex) (sh : Extent) (sel : Selector) (a b : ℕ) (wa : Word a) (wb : Word b)
      {x₁ x₂ x₃ x₄ : Answered} {t₂ s₂ e₂ l₂ t₃ s₃ e₃ l₃ : List ℕ}
      (m₁ : Emptying (record { written = 0; free = 8 }) l₀ x₁)
      (m₂ : SetSingle (tracker t₁ s₀ e₀) i sh sel a x₁.head l₀ x₂ (tracker t₂ s₂ e₂) l₂)
      (m₃ : Emptying x₂.head l₂ x₃)
      (m₄ : SetSingle (tracker t₂ s₂ e₂) i sh sel b x₃.head l₂ x₄ (tracker t₃ s₃ e₃) l₃) where
    abbrev step₁ : Step
    step₁ = record {
      call = call_set_single 0 i sh sel a;
      log = l₀;
      told = record { written = 0; free = 8 };
      emptied = x₁;
      answered = x₂;
      sets = alone (tracker t₂ s₂ e₂);
      logged = l₂;
    }

    abbrev step₂ : Step
    step₂ = record {
      call = call_set_single 0 i sh sel b;
      log = l₂;
      told = x₂.head;
      emptied = x₃;
      answered = x₄;
      sets = alone (tracker t₃ s₃ e₃);
      logged = l₃;
    }

    room₀ : 8 ≤ length (entries_of l₀)
    room₀ = rw (entries_long l₀) lent

    free₁ : x₁.head ≡ record { written = 0; free = 8 }
    free₁ = emptied_head l₀ (record { written = 0; free = 8 }) x₁ room₀ m₁

    meets₁ : Meets (alone (tracker t₁ s₀ e₀)) step₁
    unfolding tracker_of
    meets₁ = record {
      word = wa;
      lent = room₀;
      emptied = m₁;
      free = rw free₁ (few_owned (call_set_single 0 i sh sel a) (tracker t₁ s₀ e₀) ready₁ (few_in_all (numbers_of t₁) numbers₁));
      ran = record { tracker = tracker t₂ s₂ e₂; contract = m₂; sets = refl };
    }

    -- the second emptying: written and free are eight together, and as many entries are lent as before
    sum₂ : x₂.head.written + x₂.head.free ≡ 8
    sum₂ =
        let t = tracker_in (tracker t₁ s₀ e₀) in
        let z = head_sum (log_of l₀ x₁.head) t (set_single ranged t i.0 sh sel a) (tracker_test (tracker t₁ s₀ e₀)) in
        rw m₂.call.log.head (z ∙ rw free₁)

    room₂ : x₂.head.written + x₂.head.free ≤ length (entries_of l₂)
    room₂ = rw (sum₂, entries_long l₂, m₂.call.log.long) lent

    free₃ : x₃.head ≡ record { written = 0; free = 8 }
    free₃ = let z : x₂.head.free + x₂.head.written ≡ 8 = omega (arith, sum₂) in rw (emptied_head l₂ x₂.head x₃ room₂ m₃, z)

    ready₂ : Ready (alone (tracker t₂ s₂ e₂))
    ready₂ = ready_after (step₁ ∷ []) (alone (tracker t₁ s₀ e₀)) ready₁ (meets₁, tt)

    numbers₂ : numbers_of t₂ ≡ record { textures = 1; mips = 2; layers = 4 }
    numbers₂ = let head = tracker_head m₂.stays in
        rw (head textures_at (omega arith), head mip_limit_at (omega arith), head layer_limit_at (omega arith)) numbers₁

    meets₂ : Meets (alone (tracker t₂ s₂ e₂)) step₂
    unfolding tracker_of
    meets₂ = record {
      word = wb;
      lent = room₂;
      emptied = m₃;
      free = rw free₃ (few_owned (call_set_single 0 i sh sel b) (tracker t₂ s₂ e₂) ready₂ (few_in_all (numbers_of t₂) numbers₂));
      ran = record { tracker = tracker t₃ s₃ e₃; contract = m₄; sets = refl };
    }

    -- THE CLIENT's second call shares with the grid's run what demand 3 lists
    pub client_shares : SharedAt (client_step (call_set_single 0 i sh sel b) x₃ x₄ t₃ s₃ e₃ l₃)
        (client_run (min (length s₀ / 3) (length e₀ / 3)) i sh sel a b)
    client_shares =
        let z = (demand3 [] (opening ∷ []) (step₁ ∷ step₂ ∷ []) (subst (λ (k : Lent). Trace k (step₁ ∷ step₂ ∷ [])) (sym opened_is)
        (meets₁, (meets₂, tt)))).1.0 in
        record {
          answer = z.answer;
          scopes = z.scopes;
          trackers = z.trackers;
          transitions = z.transitions;
          once = z.once;
          refusals = z.refusals;
          others = z.others;
          emptied = z.emptied;
        }
