-- Newly opened storage: its view is the model's newly opened sets, and every set in it is well formed with the room that is lent for it.
use Rattle.std.specs.Prelude.{◌/◌, ◌≤◌, ◌≡◌, ◌∷◌, ◌++◌, if◌then◌else◌}
use Rattle.model.specs.Prelude.{le_trans, min-le_left, min-le_right, refl, sym, ap, ◌∙◌, Bool, true, false, not, false≢true}
use Rattle.model.specs.Prelude.{Option, None, Some, List, [], map, length, ltb-false, le-leb}
use Rattle.model.specs.{declared.Refusal.Refusal, declared.Refusal.TheVariants.{NumbersOutOfLimits, FlagsBreakRule, ShortRoom}}
use Rattle.model.specs.{Base.{each, All}, Flags.flags_fit, Sets.{Opening, open_set, open_tracker, numbers_fit, capacity}}
use Rattle.model.specs.{Refusals.{first_failing, opening_refusal, accepted, opens}, Calls.newly, Texture.{single, ranged}}
use Rattle.model.specs.{WellFormed.{scope_fits, tracker_fits}, Log.verdict, ListLaws.all_join, BoolLaws.{by_test, by_test₂, both, and_left}}
use Rattle.agreement.proofs.CallsAgree.{opened_fits}
use Rattle.set_storage.specs.Lent.{LentScope, LentTracker, scope_in, tracker_in, scope_test, tracker_test}
use Rattle.track.specs.Trace.{view_of, Ready, ScopeOpening, TrackerOpening, scope_asked, tracker_asked, is_done, opened_sets}

-- an opening is done if and only if it is not refused
done_opens : (o : Option Refusal) → is_done (verdict o) ≡ accepted o
done_opens None = refl
done_opens (Some r) = refl

-- and then its room is enough
third : (a b c : Bool)
    → accepted (if not a then Some NumbersOutOfLimits else if not b then Some FlagsBreakRule else if c then Some ShortRoom else None) ≡ true
    → c ≡ false
third true true true e = absurd (false≢true e)
third true true false e = refl
third true false c e = absurd (false≢true e)
third false b c e = absurd (false≢true e)

room_enough : (o : Opening) → opens o ≡ true → capacity o.numbers ≤ o.room
unfolding opening_refusal first_failing
room_enough o e = ltb-false o.room (capacity o.numbers) (third (numbers_fit o.numbers) (flags_fit o.flags) _ e)

-- ---- One opening
module _ (o : Opening) (e : opens o ≡ true) where
  scope_fits_lem : scope_fits (open_set single o) ≡ true
  unfolding newly
  scope_fits_lem = and_left _ true (and_left _ true (rw e at (opened_fits (o ∷ []) [])))

  tracker_fits_lem : tracker_fits (open_tracker single o) ≡ true
  unfolding newly
  tracker_fits_lem = and_left _ true (rw e at (opened_fits [] (o ∷ [])))

scope_done : (o : ScopeOpening) → is_done o.outcome ≡ opens (scope_asked o)
scope_done o = ap is_done o.meets.answer ∙ done_opens (opening_refusal (scope_asked o))

pub tracker_done : (o : TrackerOpening) → is_done o.outcome ≡ opens (tracker_asked o)
tracker_done o = ap is_done o.meets.answer ∙ done_opens (opening_refusal (tracker_asked o))

scope_opened : (o : ScopeOpening) → opens (scope_asked o) ≡ true → scope_test (record { table = o.opened; ranges = o.ranges }) ≡ true
scope_opened o e = rw (o.meets.view e) (both (scope_fits_lem (scope_asked o) e) (le-leb _ _ (room_enough (scope_asked o) e)))

tracker_opened : (o : TrackerOpening) → opens (tracker_asked o) ≡ true
    → tracker_test (record { table = o.opened; starts = o.starts; ends = o.ends }) ≡ true
tracker_opened o e =
    let a = length o.starts / 3 in let b = length o.ends / 3 in let room = room_enough (tracker_asked o) e in
    rw (o.meets.view e) (both (both (tracker_fits_lem (tracker_asked o) e) (le-leb _ a (le_trans room (min-le_left a b))))
    (le-leb _ b (le_trans room (min-le_right a b))))

-- ---- All of them: openings O, each of which asks, is done or not, and makes a storage L that is viewed as a set S
module _ {O L S : Type 0} (view : L → S) (begun : Opening → S) (ask : O → Opening) (made : O → Bool) (store : O → L) (same : (o : O)
    → made o ≡ opens (ask o)) where
  abbrev stored : List O → List L
  stored os = each (λ o. if made o then store o ∷ [] else []) os

  abbrev all_begun : List O → List S
  all_begun os = each (λ o. if opens o then begun o ∷ [] else []) (map ask os)

  viewed : ((o : O) → opens (ask o) ≡ true → view (store o) ≡ begun (ask o)) → (os : List O) → map view (stored os) ≡ all_begun os
  viewed h [] = refl
  viewed h (o ∷ os) =
      rw (same o) (by_test₂ (λ (x : List L) (y : List S). map view (x ++ stored os) ≡ y ++ all_begun os) (opens (ask o))
      (λ e. rw (h o e, viewed h os)) (λ e. viewed h os))

  all_made : (P : L → Type 0) → ((o : O) → opens (ask o) ≡ true → P (store o)) → (os : List O) → All P (stored os)
  all_made P h [] = tt
  all_made P h (o ∷ os) =
      all_join P (if made o then store o ∷ [] else []) _
      (by_test (All P) (made o) (λ e. (h o (sym (same o) ∙ e), tt)) (λ e. tt)) (all_made P h os)

module _ (ss : List ScopeOpening) (ts : List TrackerOpening) where
  pub opened_view : view_of (opened_sets ss ts) ≡ newly ranged (map scope_asked ss) (map tracker_asked ts)
  unfolding newly
  opened_view = λ i. record {
    scopes = viewed scope_in (open_set single) scope_asked _ _ scope_done (λ o. o.meets.view) ss i;
    trackers = viewed tracker_in (open_tracker single) tracker_asked _ _ tracker_done (λ o. o.meets.view) ts i;
  }

  pub opened_ready : Ready (opened_sets ss ts)
  opened_ready = record {
    scopes = all_made scope_in (open_set single) scope_asked _ _ scope_done (λ (s : LentScope). scope_test s ≡ true) scope_opened ss;
    trackers = all_made tracker_in (open_tracker single) tracker_asked _ _ tracker_done
        (λ (t : LentTracker). tracker_test t ≡ true) tracker_opened ts;
  }
