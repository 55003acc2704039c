-- Every trace from well-formed storage is, step by step, the ranged model's run, and so shares with the grid's what demand 3 lists.
use Rattle.model.specs.Prelude.{ℕ, arith, refl, sym, ap, subst, ◌∙◌, true, false, Bool, true≢false, Option, List, [], map, eqb, Ok, Err}
use Rattle.model.specs.{declared.{InvalidUse.InvalidUse, Refusal.Refusal}}
use Rattle.model.specs.{Sets.{Set, Tracker}, Refusals.number_of, Calls.{Answer, done, refused, in_conflict, CallResult, Sets, step, newly}}
use Rattle.model.specs.declared.CallError.TheVariants.{Refused}
use Rattle.model.specs.{StateRules.Move, Texture.{Held, ranged}, WellFormed.{scope_fits, tracker_fits}, Log.outcome_of, BoolLaws.both}
use Rattle.model.specs.ListLaws.{all_every, all_map}
use Rattle.std.specs.Prelude.{◌≡◌, ◌∷◌, if◌then◌else◌}
use Rattle.agreement.specs.Grid.{SubresourceConflict, grid}
use Rattle.agreement.specs.Shared.{grid_of, grid_ends, to_grids, seen_answer, seen, Shares, Agree, after_calls}
use Rattle.agreement.specs.{WellFormedSets.well_formed, LogBound.listed}
use Rattle.agreement.proofs.{Agree.opened_grids, CallsAgree.agrees_from, OwnRefusals.own_refusals}
use Rattle.set_storage.specs.Lent.{LentScope, LentTracker, scope_in, tracker_in, scope_test, tracker_test}
use Rattle.track.specs.Trace.{Lent, view_of, Ready, ScopeOpening, TrackerOpening, scope_asked, tracker_asked, opened_sets, Step, Meets}
use Rattle.track.specs.Trace.{Trace, calls_of, sets_after, seen_outcome, SharedAt, SharedAlong, IsModel, ModelAlong}
use Rattle.track.proofs.{LogLaws.{empty_log, transitions_logged}, OpenedLaws.{opened_view, opened_ready}}
use Rattle.track.proofs.StepLaws.{scope_well, tracker_well, Follows, follows}

-- an answer as a public call tells it, seen as the model's
pub told_seen : (a : Answer InvalidUse) → seen_outcome (outcome_of a) ≡ seen_answer a
told_seen done = refl
told_seen (refused r) = refl
told_seen (in_conflict c) = refl

told_refused : (a : Answer InvalidUse) (x : Refusal) → outcome_of a ≡ Err (Refused x) → a ≡ refused x
told_refused done x e = absurd (let z : ◌≡◌ {A = ℕ} 0 1 = cc in omega arith)
told_refused (refused r) x e = let y : r ≡ x = cc in rw y
told_refused (in_conflict c) x e = absurd (let z : ◌≡◌ {A = ℕ} 0 1 = cc in omega arith)

-- ---- One step: it is the model's
pub steps_on : (k : Lent) → Ready k → (s : Step) → Meets k s → (s.emptied.outcome ≡ Ok tt) × Follows (step ranged s.call (view_of k)) s
steps_on k ready s m =
    let e = empty_log s.log s.told s.emptied m.lent m.emptied in
    (e.0, follows k ready s e.1 s.call m.word m.free m.ran)

is_model : (s : Step) (m : Sets ranged) → Follows (step ranged s.call m) s → IsModel s (step ranged s.call m)
is_model s m f = record { answer = f.answer; after = f.after; entries = f.entries }

-- a number that is none of these is none of some of them
fewer : (n : ℕ) (i : ℕ) (is : List ℕ) → listed n (i ∷ is) ≡ false → (eqb i n ≡ false) × (listed n is ≡ false)
fewer n i is h = go (eqb i n) h
  where
    go : (b : Bool) → (if b then true else listed n is) ≡ false → (b ≡ false) × (listed n is ≡ false)
    go true h = absurd (true≢false h)
    go false h = (refl, h)

not_own : (n : ℕ) → listed n (1 ∷ 2 ∷ 3 ∷ 4 ∷ 5 ∷ 14 ∷ 15 ∷ []) ≡ false
    → (listed n (4 ∷ 5 ∷ 15 ∷ []) ≡ false) × (listed n (1 ∷ 2 ∷ 3 ∷ 14 ∷ []) ≡ false)
not_own n h =
    let a = fewer n 1 (2 ∷ 3 ∷ 4 ∷ 5 ∷ 14 ∷ 15 ∷ []) h in let b = fewer n 2 (3 ∷ 4 ∷ 5 ∷ 14 ∷ 15 ∷ []) a.1 in
    let c = fewer n 3 (4 ∷ 5 ∷ 14 ∷ 15 ∷ []) b.1 in let d = fewer n 4 (5 ∷ 14 ∷ 15 ∷ []) c.1 in
    let e = fewer n 5 (14 ∷ 15 ∷ []) d.1 in let f = fewer n 14 (15 ∷ []) e.1 in
    (rw (d.0, e.0) f.1, rw (a.0, b.0, c.0, f.0))

-- and what it shares with the grid's
share_step : (k : Lent) (s : Step) (g : CallResult SubresourceConflict (List (List (Option Move))) (Sets grid)) → s.emptied.outcome ≡ Ok tt
    → Follows (step ranged s.call (view_of k)) s → Shares (step ranged s.call (view_of k)) g → SharedAt s g
share_step k s g e f a =
    let r = step ranged s.call (view_of k) in
    record {
      answer = ap seen_outcome f.answer ∙ (told_seen r.answer ∙ a.answer);
      scopes = ap (λ (x : Sets ranged). map (seen grid_of) x.scopes) f.after ∙ a.scopes;
      trackers = ap (λ (x : Sets ranged). map (λ (t : Tracker Held). seen grid_ends t.set) x.trackers) f.after ∙ a.trackers;
      transitions = λ i m l. rw (f.entries, transitions_logged i m l r.log) (a.moves i m l);
      once = λ i m l. rw (f.entries, transitions_logged i m l r.log) (a.once i m l);
      refusals = λ x h. (not_own (number_of x) (own x h)).0;
      others = λ x h. (not_own (number_of x) (own x h)).1;
      emptied = e;
    }
  where
    own : (x : Refusal) → s.answered.outcome ≡ Err (Refused x) → listed (number_of x) (1 ∷ 2 ∷ 3 ∷ 4 ∷ 5 ∷ 14 ∷ 15 ∷ []) ≡ false
    own x h = own_refusals ranged s.call (view_of k) x (told_refused (step ranged s.call (view_of k)).answer x (sym f.answer ∙ h))

-- ---- Every step, from well-formed sets
along : (steps : List Step) (k : Lent) (g : Sets grid) → Ready k → Agree (view_of k) g (calls_of steps)
    → Trace k steps → SharedAlong steps g
along [] k g ready a t = tt
along (s ∷ steps) k g ready a t =
    let f = steps_on k ready s t.0 in (
      share_step k s (step grid s.call g) f.0 f.1 a.0,
      along steps s.sets (step grid s.call g).after f.1.ready
          (subst (λ (x : Sets ranged). Agree x (step grid s.call g).after (calls_of steps)) (sym f.1.after) a.1) t.1,
    )

model_along : (steps : List Step) (k : Lent) (m : Sets ranged) → Ready k → view_of k ≡ m → Trace k steps
    → ModelAlong steps m × (view_of (sets_after k steps) ≡ after_calls ranged (calls_of steps) m)
model_along [] k m ready e t = (tt, e)
model_along (s ∷ steps) k m ready e t =
    let f = subst (λ (x : Sets ranged). Follows (step ranged s.call x) s) e (steps_on k ready s t.0).1 in
    let ih = model_along steps s.sets (step ranged s.call m).after f.ready f.after t.1 in
    ((is_model s m f, ih.0), ih.1)

-- the sets stay ready
pub ready_after : (steps : List Step) (k : Lent) → Ready k → Trace k steps → Ready (sets_after k steps)
ready_after [] k ready t = ready
ready_after (s ∷ steps) k ready t = ready_after steps s.sets (steps_on k ready s t.0).1.ready t.1

-- what is ready is well formed
pub ready_fits : (k : Lent) → Ready k → well_formed (view_of k) ≡ true
ready_fits k r = both
    (all_every (λ (x : Set Held). scope_fits x ≡ true) scope_fits (λ x e. e) (map scope_in k.scopes)
    (all_map (λ (s : LentScope). scope_test s ≡ true) (λ (x : Set Held). scope_fits x ≡ true) scope_in scope_well k.scopes r.scopes))
    (all_every (λ (x : Tracker Held). tracker_fits x ≡ true) tracker_fits (λ x e. e) (map tracker_in k.trackers)
    (all_map (λ (t : LentTracker). tracker_test t ≡ true) (λ (x : Tracker Held). tracker_fits x ≡ true) tracker_in
    tracker_well k.trackers r.trackers))

-- ---- The theorems
pub shares_from : (k : Lent) → Ready k → (steps : List Step) → Trace k steps → SharedAlong steps (to_grids (view_of k))
shares_from k ready steps = along steps k (to_grids (view_of k)) ready (agrees_from (view_of k) (ready_fits k ready) (calls_of steps))

-- the grids of newly opened storage are newly opened grids
pub opened_as_grids : (scopes : List ScopeOpening) (trackers : List TrackerOpening)
    → to_grids (view_of (opened_sets scopes trackers)) ≡ newly grid (map scope_asked scopes) (map tracker_asked trackers)
opened_as_grids ss ts = ap to_grids (opened_view ss ts) ∙ opened_grids (map scope_asked ss) (map tracker_asked ts)

pub model_runs : (k : Lent) → Ready k → (steps : List Step) → Trace k steps
    → ModelAlong steps (view_of k) × (view_of (sets_after k steps) ≡ after_calls ranged (calls_of steps) (view_of k))
model_runs k ready steps = model_along steps k (view_of k) ready refl

pub trace_runs : (scopes : List ScopeOpening) (trackers : List TrackerOpening) (steps : List Step)
    → Trace (opened_sets scopes trackers) steps
    → ModelAlong steps (newly ranged (map scope_asked scopes) (map tracker_asked trackers))
    × (view_of (sets_after (opened_sets scopes trackers) steps)
    ≡ after_calls ranged (calls_of steps) (newly ranged (map scope_asked scopes) (map tracker_asked trackers)))
trace_runs ss ts steps = model_along steps (opened_sets ss ts) (newly ranged (map scope_asked ss) (map tracker_asked ts))
    (opened_ready ss ts) (opened_view ss ts)
