-- The last step of a trace, where it is a single merge of a usage: the WebGPU rule of crate `agreement`, carried over to the lent numbers.
use Rattle.model.specs.Prelude.{ℕ, refl, sym, ap, subst, ◌∙◌, false, false≢true, Option, None, Some, option_map, List, [], map, slice_get}
use Rattle.model.specs.declared.{Extent.Extent, InvalidUse.InvalidUse, Refusal.Refusal, Selector.Selector}
use Rattle.model.specs.{declared.TrackerIndex.TrackerIndex, Sets.{Set, head_of}, Refusals.single_refusal}
use Rattle.model.specs.{Calls.{Answer, done, refused, in_conflict, Call, call_merge_single, Sets, step, newly}, Texture.{Held, ranged}}
use Rattle.model.specs.{Log.{is_refused, outcome_of}, ListLaws.elem_map, Base.All}
use Rattle.std.specs.Prelude.{◌≡◌, ◌↔◌, ◌∷◌, ◌++◌}
use Rattle.agreement.specs.{Shared.{seen_answer, after_calls}, WellFormedSets.GivenWord}
use Rattle.agreement.specs.WebGpu.{Usage, Renders, Histories, histories, InConflict, GivenUsage, NotCompatible}
use Rattle.agreement.proofs.UsagesJudged.{usages_judged}
use Rattle.set_storage.specs.Lent.{LentScope, scope_in}
use Rattle.track.specs.Trace.{Lent, view_of, ScopeOpening, TrackerOpening, scope_asked, tracker_asked, opened_sets, Step, Meets, Trace}
use Rattle.track.specs.Trace.{calls_of, sets_after, seen_outcome}
use Rattle.track.proofs.{OpenedLaws.opened_ready, TraceLaws.{told_seen, steps_on, ready_after, trace_runs}}
use Rattle.model.specs.Log.{Outcome}

-- ---- A trace and its last step
front : (steps : List Step) (s : Step) (k : Lent) → Trace k (steps ++ (s ∷ [])) → Trace k steps
front [] s k t = tt
front (x ∷ steps) s k t = (t.0, front steps s x.sets t.1)

last : (steps : List Step) (s : Step) (k : Lent) → Trace k (steps ++ (s ∷ [])) → Meets (sets_after k steps) s
last [] s k t = t.0
last (x ∷ steps) s k t = last steps s x.sets t.1

given_words : (steps : List Step) (k : Lent) → Trace k steps → All GivenWord (calls_of steps)
given_words [] k t = tt
given_words (s ∷ steps) k t = (t.0.word, given_words steps s.sets t.1)

-- ---- A conflict is one in the model and as it is told
seen_conflict : (a : Answer InvalidUse) → InConflict (seen_answer a) → InConflict a
seen_conflict done t = t
seen_conflict (refused r) t = t
seen_conflict (in_conflict c) t = t

conflict_seen : (a : Answer InvalidUse) → InConflict a → InConflict (seen_answer a)
conflict_seen done t = t
conflict_seen (refused r) t = t
conflict_seen (in_conflict c) t = t

module _ (x : Outcome) (a : Answer InvalidUse) (e : x ≡ outcome_of a) where
  as_seen : seen_outcome x ≡ seen_answer a
  as_seen = ap seen_outcome e ∙ told_seen a

  to_model : InConflict (seen_outcome x) → InConflict a
  to_model t = seen_conflict a (subst InConflict as_seen t)

  from_model : InConflict a → InConflict (seen_outcome x)
  from_model t = subst InConflict (sym as_seen) (conflict_seen a t)

-- a single merge that its checks refuse is turned away
merge_refused : (k : Sets ranged) (n : ℕ) (i : TrackerIndex) (sh : Extent) (sel : Option Selector) (st : ℕ) (r : Set Held)
    → slice_get k.scopes n ≡ Some r
    → (x : Refusal) → single_refusal (head_of r) i.0 sh sel st ≡ Some x
    → (step ranged (call_merge_single n i sh sel st) k).answer ≡ refused x
unfolding step
merge_refused k n i sh sel st r e x h = rw (e, h)

-- so one that is not turned away passed them
merge_passed : (k : Sets ranged) (n : ℕ) (i : TrackerIndex) (sh : Extent) (sel : Option Selector) (st : ℕ) (r : Set Held)
    → slice_get k.scopes n ≡ Some r
    → is_refused (outcome_of (step ranged (call_merge_single n i sh sel st) k).answer) ≡ false
    → single_refusal (head_of r) i.0 sh sel st ≡ None
merge_passed k n i sh sel st r e q = go (single_refusal (head_of r) i.0 sh sel st) refl
  where
    go : (o : Option Refusal) → single_refusal (head_of r) i.0 sh sel st ≡ o → o ≡ None
    go None h = refl
    go (Some x) h = absurd (false≢true (sym q
        ∙ ap (λ (a : Answer InvalidUse). is_refused (outcome_of a)) (merge_refused k n i sh sel st r e x h)))

pub trace_judged : (bit : Usage → ℕ) (scopes : List ScopeOpening) (trackers : List TrackerOpening) (steps : List Step) (s : Step)
    → Trace (opened_sets scopes trackers) (steps ++ (s ∷ [])) → All (GivenUsage bit) (calls_of steps)
    → (n : ℕ) (i : TrackerIndex) (sh : Extent) (sel : Option Selector) (u : Usage) → s.call ≡ call_merge_single n i sh sel (bit u)
    → (a : LentScope) → slice_get (sets_after (opened_sets scopes trackers) steps).scopes n ≡ Some a → Renders (scope_in a).flags bit
    → is_refused s.answered.outcome ≡ false
    → (h : Set Histories) × (slice_get (after_calls histories (calls_of steps)
    (newly histories (map scope_asked scopes) (map tracker_asked trackers))).scopes n ≡ Some h)
    × (InConflict (seen_outcome s.answered.outcome) ↔ NotCompatible bit h i.0 sh sel u)
trace_judged bit ss ts steps s t g n i sh sel u call a at r passed =
    let k = opened_sets ss ts in let m = last steps s k t in let c = call_merge_single n i sh sel (bit u) in
    let KR = after_calls ranged (calls_of steps) (newly ranged (map scope_asked ss) (map tracker_asked ts)) in
    let run : view_of (sets_after k steps) ≡ KR = (trace_runs ss ts steps (front steps s k t)).1 in
    let f = (steps_on (sets_after k steps) (ready_after steps k (opened_ready ss ts) (front steps s k t)) s m).1 in
    let told : s.answered.outcome ≡ outcome_of (step ranged c KR).answer = f.answer
    ∙ ap (λ (x : Call). outcome_of (step ranged x (view_of (sets_after k steps))).answer) call
    ∙ ap (λ (x : Sets ranged). outcome_of (step ranged c x).answer) run in
    let there : slice_get KR.scopes n ≡ Some (scope_in a) = ap (λ (x : Sets ranged). slice_get x.scopes n) (sym run)
    ∙ elem_map scope_in (sets_after k steps).scopes n ∙ ap (option_map scope_in) at in
    let fine = merge_passed KR n i sh sel (bit u) (scope_in a) there (ap is_refused (sym told) ∙ passed) in
    let j = usages_judged bit (map scope_asked ss) (map tracker_asked ts) (calls_of steps) (given_words steps k (front steps s k t)) g n
    i.0 sh sel u (subst GivenWord call m.word) (scope_in a) there r fine in (
      j.0,
      j.1,
      (
        λ x. j.2.0 (to_model s.answered.outcome (step ranged c KR).answer told x),
        λ x. from_model s.answered.outcome
            (step ranged c KR).answer told (j.2.1 x),
      ),
    )
