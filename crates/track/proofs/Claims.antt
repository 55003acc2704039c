-- What else is proved of every trace of the public calls' contracts (Demand3 has demand 3): each claim is a statement with the name of its
-- proof.
use Rattle.std.specs.Prelude.{◌≡◌, ◌↔◌, ◌∷◌, ◌++◌}
use Rattle.model.specs.Prelude.{ℕ, false, Option, Some, List, [], map, slice_get}
use Rattle.model.specs.{declared.{Extent.Extent, Selector.Selector, TrackerIndex.TrackerIndex}, Sets.Set, Calls.{call_merge_single, newly}}
use Rattle.model.specs.{Texture.ranged, Log.is_refused, Base.All}
use Rattle.agreement.specs.{Shared.after_calls, WebGpu.{Usage, Renders, Histories, histories, InConflict, GivenUsage, NotCompatible}}
use Rattle.set_storage.specs.Lent.{LentScope, scope_in}
use Rattle.track.specs.Trace.{Lent, view_of, Ready, ScopeOpening, TrackerOpening, scope_asked, tracker_asked, opened_sets, Step, Trace}
use Rattle.track.specs.Trace.{calls_of, sets_after, seen_outcome, ModelAlong}
use Rattle.track.proofs.TraceLaws.{trace_runs, model_runs}
use Rattle.track.proofs.UsageLaws.{trace_judged}

-- ---- The ranged model's run of the same calls: each step is its call, and at the end the numbers hold its sets
-- "the port gives what the Rust gives: every strip range by range, start and end states, clashes, and pending transitions in their order",
-- the Rust on lists
pub runs : (scopes : List ScopeOpening) (trackers : List TrackerOpening) (steps : List Step) → Trace (opened_sets scopes trackers) steps
    → ModelAlong steps (newly ranged (map scope_asked scopes) (map tracker_asked trackers))
    × (view_of (sets_after (opened_sets scopes trackers) steps)
    ≡ after_calls ranged (calls_of steps) (newly ranged (map scope_asked scopes) (map tracker_asked trackers)))
runs = trace_runs

-- from any well-formed storage
pub runs_from : (k : Lent) → Ready k → (steps : List Step) → Trace k steps
    → ModelAlong steps (view_of k) × (view_of (sets_after k steps) ≡ after_calls ranged (calls_of steps) (view_of k))
runs_from = model_runs

-- ---- "For single merges the yes or no on uses is also proved against a definition written from the WebGPU specification."
-- at the last step of a trace whose single merges are given usages' bits: it conflicts if and only if a named subresource's usages are
-- neither compatible nor all attachments
pub webgpu : (bit : Usage → ℕ) (scopes : List ScopeOpening) (trackers : List TrackerOpening) (steps : List Step) (s : Step)
    → Trace (opened_sets scopes trackers) (steps ++ (s ∷ [])) → All (GivenUsage bit) (calls_of steps)
    → (n : ℕ) (i : TrackerIndex) (sh : Extent) (sel : Option Selector) (u : Usage) → s.call ≡ call_merge_single n i sh sel (bit u)
    → (a : LentScope) → slice_get (sets_after (opened_sets scopes trackers) steps).scopes n ≡ Some a → Renders (scope_in a).flags bit
    → is_refused s.answered.outcome ≡ false
    → (h : Set Histories) × (slice_get (after_calls histories (calls_of steps)
    (newly histories (map scope_asked scopes) (map tracker_asked trackers))).scopes n ≡ Some h)
    × (InConflict (seen_outcome s.answered.outcome) ↔ NotCompatible bit h i.0 sh sel u)
webgpu = trace_judged
