-- Demand 3, over the numbers that callers lend and the public calls' own contracts: what a trace of calls is, and what is shared at each of
-- its steps. Definitions only; Demand3 and Claims state the theorems.
use Rattle.model.specs.Prelude.{ℕ, min, Bool, true, false, Option, None, Some, Ok, Err, List, [], map, eqb, length, set, slice_get}
use Rattle.model.specs.Prelude.{take}
use Rattle.model.specs.declared.CallError.TheVariants.{Refused, Conflict}
use Rattle.model.specs.declared.{InvalidUse.InvalidUse, LogHead.LogHead, PendingTransition.PendingTransition}
use Rattle.model.specs.declared.{Refusal.Refusal, UsageFlags.UsageFlags}
use Rattle.model.specs.{Base.{each, All}, Representation.holds, Refusals.number_of, Sets.{Tracker, Opening}}
use Rattle.model.specs.Calls.{Answer, done, refused, in_conflict, CallResult, Call, call_merge_single, call_merge_usage_scope}
use Rattle.model.specs.Calls.{call_set_single, call_set_from_usage_scope, call_set_from_tracker, call_set_and_remove_sparse, Sets, step}
use Rattle.model.specs.{StateRules.Move, Texture.{Held, Entry, ranged}, Log.{Answered, Outcome, outcome_of, pending}}
use Rattle.std.specs.Prelude.{◌+◌, ◌/◌, ◌≤◌, ◌≡◌, ◌&&◌, ◌∷◌, if◌then◌else◌}
use Rattle.std.specs.Bool.{MatchBool}
use Rattle.set_storage.specs.Lent.{LentScope, LentTracker, scope_in, tracker_in, scope_test, tracker_test}
use Rattle.texture_barrier.specs.Entries.{entries_of}
use Rattle.agreement.specs.{Grid.{Grid, SubresourceConflict, grid}, Shared.{grid_of, grid_ends, first_of, seen, itself, moved_at}}
use Rattle.agreement.specs.{WellFormedSets.GivenWord, LogBound.{owned_of, listed}}
use Rattle.call_open.specs.Open.{OpenedScope, OpenedTracker, asked}
use Rattle.log_head.specs.Log.{Emptying}
use Rattle.call_merge.specs.Contract.{MergeSingle, MergeUsageScope}
use Rattle.call_set.specs.Contract.{SetSingle}
use Rattle.call_join.specs.Contract.{SetFromUsageScope, SetFromTracker}
use Rattle.call_remove.specs.Removed.{SetAndRemoveSparse}

-- ---- What is lent: "the same scopes and trackers, however many"
-- for all scopes and trackers
pub record Lent : Type 0 where
  pub scopes : List LentScope
  pub trackers : List LentTracker

-- "One stores each mip as a run of layer ranges, as the Rust does.": all sets that the numbers hold
abbrev pub view_of : Lent → Sets ranged
view_of k = record { scopes = map scope_in k.scopes; trackers = map tracker_in k.trackers }

-- every set is well formed, with its room
pub record Ready (k : Lent) : Type 0 where
  pub scopes : All (λ (s : LentScope). scope_test s ≡ true) k.scopes
  pub trackers : All (λ (t : LentTracker). tracker_test t ≡ true) k.trackers

-- ---- "newly opened", "opened alike": each set came out of the call that opens it, from any numbers
-- a call of `open_scope`: what it was lent and given, its answer, the table that it left, and that its contract holds of them
pub record ScopeOpening : Type 0 where
  pub table : List ℕ
  pub ranges : List ℕ
  pub textures : ℕ
  pub mips : ℕ
  pub layers : ℕ
  pub flags : UsageFlags
  pub outcome : Outcome
  pub opened : List ℕ
  pub meets : OpenedScope table ranges textures mips layers flags outcome opened

-- a call of `open_tracker`
pub record TrackerOpening : Type 0 where
  pub table : List ℕ
  pub starts : List ℕ
  pub ends : List ℕ
  pub textures : ℕ
  pub mips : ℕ
  pub layers : ℕ
  pub flags : UsageFlags
  pub mask : ℕ
  pub outcome : Outcome
  pub opened : List ℕ
  pub meets : OpenedTracker table starts ends textures mips layers flags mask outcome opened

-- what the grid is asked to open, for a scope
abbrev pub scope_asked : ScopeOpening → Opening
scope_asked o = asked o.textures o.mips o.layers o.flags 0 (length o.ranges / 3)

-- and for a tracker
abbrev pub tracker_asked : TrackerOpening → Opening
tracker_asked o = asked o.textures o.mips o.layers o.flags o.mask (min (length o.starts / 3) (length o.ends / 3))

-- whether an opening was done
abbrev pub is_done : Outcome → Bool
is_done (Ok u) = true
is_done (Err e) = false

-- what was opened; an opening that is refused makes no set
abbrev pub opened_sets : List ScopeOpening → List TrackerOpening → Lent
opened_sets scopes trackers = record {
  scopes = each (λ o. if is_done o.outcome then record { table = o.opened; ranges = o.ranges } ∷ [] else []) scopes;
  trackers = each (λ o. if is_done o.outcome then record { table = o.opened; starts = o.starts; ends = o.ends } ∷ [] else []) trackers;
}

-- ---- One step: the log is emptied, then a call is made
pub record Step : Type 0 where
  pub call : Call
  -- the log that is lent, and the head that its caller tells
  pub log : List ℕ
  pub told : LogHead
  -- what emptying answers, and what the call does
  pub emptied : Answered
  pub answered : Answered
  -- the sets and the log as the call left them
  pub sets : Lent
  pub logged : List ℕ

-- ---- A call among all sets: it meets its contract at those that it names, and "nobody else writes them meanwhile"
-- what is handed no log leaves it
pub record LogStays (s : Step) : Type 0 where
  pub head : s.answered.head ≡ s.emptied.head
  pub numbers : s.logged ≡ s.log

-- a call on sets that are not there is none, and so is one on a set twice: "no call is handed the same set twice"
pub record NoCall (k : Lent) (s : Step) : Type 0 where
  pub answer : s.answered.outcome ≡ Ok tt
  pub sets : s.sets ≡ k
  pub log : LogStays s

-- a merge writes the scope at n
pub record MergedAt (n : ℕ) (meets : Outcome → LentScope → Type 0) (k : Lent) (s : Step) : Type 0 where
  pub scope : LentScope
  pub contract : meets s.answered.outcome scope
  pub sets : s.sets ≡ record { scopes = set k.scopes n scope; trackers = k.trackers }
  pub log : LogStays s

-- a tracker's call writes the tracker at n
pub record TrackedAt (n : ℕ) (meets : LogHead → List ℕ → Answered → LentTracker → List ℕ → Type 0) (k : Lent) (s : Step) : Type 0 where
  pub tracker : LentTracker
  pub contract : meets s.emptied.head s.log s.answered tracker s.logged
  pub sets : s.sets ≡ record { scopes = k.scopes; trackers = set k.trackers n tracker }

-- the sparse call writes the tracker at n, and the table of the scope at m
pub record RemovedAt (n m : ℕ) (g : LentScope) (meets : LogHead → List ℕ → Answered → LentTracker → List ℕ → List ℕ → Type 0)
    (k : Lent) (s : Step) : Type 0 where
  pub tracker : LentTracker
  pub table : List ℕ
  pub contract : meets s.emptied.head s.log s.answered tracker table s.logged
  pub sets : s.sets
      ≡ record { scopes = set k.scopes m (record { table = table; ranges = g.ranges }); trackers = set k.trackers n tracker }

-- at one set, if it is there
abbrev pub At₁ : {A : Type 0} → Option A → Type 0 → (A → Type 0) → Type 0
At₁ None missing call = missing
At₁ (Some a) missing call = call a

-- at two, if both are
abbrev pub At₂ : {A B : Type 0} → Option A → Option B → Type 0 → (A → B → Type 0) → Type 0
At₂ None b missing call = missing
At₂ (Some a) None missing call = missing
At₂ (Some a) (Some b) missing call = call a b

-- "single merges, scope merges, single sets, sets from a scope, tracker joins and sparse calls", from the sets k
abbrev pub Ran : Call → Lent → Step → Type 0
Ran (call_merge_single n i sh sel st) k s = At₁ (slice_get k.scopes n) (NoCall k s)
    (λ a. MergedAt n (MergeSingle a i sh sel st) k s)
Ran (call_merge_usage_scope n m) k s =
    MatchBool (eqb n m) (NoCall k s) (At₂ (slice_get k.scopes n) (slice_get k.scopes m) (NoCall k s) (λ a g.
    MergedAt n (MergeUsageScope a g) k s))
Ran (call_set_single n i sh sel st) k s = At₁ (slice_get k.trackers n) (NoCall k s) (λ t. TrackedAt n (SetSingle t i sh sel st) k s)
Ran (call_set_from_usage_scope n m) k s =
    At₂ (slice_get k.trackers n) (slice_get k.scopes m) (NoCall k s) (λ t g. TrackedAt n (SetFromUsageScope t g) k s)
Ran (call_set_from_tracker n m) k s =
    MatchBool (eqb n m) (NoCall k s) (At₂ (slice_get k.trackers n) (slice_get k.trackers m) (NoCall k s) (λ t g.
    TrackedAt n (SetFromTracker t g) k s))
Ran (call_set_and_remove_sparse n m is) k s =
    At₂ (slice_get k.trackers n) (slice_get k.scopes m) (NoCall k s) (λ t g. RemovedAt n m g (SetAndRemoveSparse t g is) k s)

-- ---- The steps of a trace
pub record Meets (k : Lent) (s : Step) : Type 0 where
  -- "A state is 16 bits."
  pub word : GivenWord s.call
  -- "Before each call the logs are emptied", by the call that does it, at a head that tells no more entries than are lent
  pub lent : s.told.written + s.told.free ≤ length (entries_of s.log)
  pub emptied : Emptying s.told s.log s.emptied
  -- "and given a free entry for every cell": of the textures that the tracker owns that is written; no other cell gets a transition
  pub free : owned_of s.call (view_of k) ≤ s.emptied.head.free
  pub ran : Ran s.call k s

-- "A call gets the sets as the last one left them"
abbrev pub Trace : Lent → List Step → Type 0
Trace k [] = Unit {0}
Trace k (s ∷ steps) = Meets k s × Trace s.sets steps

-- the calls of its steps
abbrev pub calls_of : List Step → List Call
calls_of steps = map (λ (s : Step). s.call) steps

-- the sets as its last step left them
abbrev pub sets_after : Lent → List Step → Lent
sets_after k [] = k
sets_after k (s ∷ steps) = sets_after s.sets steps

-- ---- What is shared
-- "the refusal, or the clash with its texture, first cell and two states"
abbrev pub seen_outcome : Outcome → Answer SubresourceConflict
seen_outcome (Ok u) = done
seen_outcome (Err (Refused r)) = refused r
seen_outcome (Err (Conflict c)) = in_conflict (record { index = c.index.0; what = first_of c.found })

-- the entries that a step left in the log, which was empty before it
abbrev pub written : Step → List PendingTransition
written s = take s.answered.head.written (entries_of s.logged)

-- "A log entry is a transition of each cell in its mips and layers.": those of mip m and layer l of index i
abbrev pub transitions_at : ℕ → ℕ → ℕ → List PendingTransition → List Move
transitions_at i m l es = each (λ (e : PendingTransition). if eqb e.index.0 i && holds e.selector m l
    then record { old = e.old; new = e.new } ∷ [] else []) es

-- "they share after each call": the numbers that the step left, and what the grid's call gives
pub record SharedAt (s : Step) (r : CallResult SubresourceConflict (List (List (Option Move))) (Sets grid)) : Type 0 where
  pub answer : seen_outcome s.answered.outcome ≡ r.answer
  -- "every owned index with its shape, marks and cells"
  pub scopes : map (seen grid_of) (view_of s.sets).scopes ≡ map (seen itself) r.after.scopes
  pub trackers : map (λ (t : Tracker Held). seen grid_ends t.set) (view_of s.sets).trackers
      ≡ map (λ (t : Tracker Grid). seen itself t.set) r.after.trackers
  -- "and each cell's transition, at most one a call"
  pub transitions : (i m l : ℕ) → transitions_at i m l (written s) ≡ moved_at i m l r.log
  pub once : (i m l : ℕ) → length (transitions_at i m l (written s)) ≤ 1
  -- "4, 5 and 15 cannot arise in these calls"; nor do 1, 2 and 3, of opening, and 14, of strips; and emptying is not refused
  pub refusals : (x : Refusal) → s.answered.outcome ≡ Err (Refused x) → listed (number_of x) (4 ∷ 5 ∷ 15 ∷ []) ≡ false
  pub others : (x : Refusal) → s.answered.outcome ≡ Err (Refused x) → listed (number_of x) (1 ∷ 2 ∷ 3 ∷ 14 ∷ []) ≡ false
  pub emptied : s.emptied.outcome ≡ Ok tt

-- at every step, with the grid's own sets g in place of the lent ones
abbrev pub SharedAlong : List Step → Sets grid → Type 0
SharedAlong [] g = Unit {0}
SharedAlong (s ∷ steps) g = SharedAt s (step grid s.call g) × SharedAlong steps (step grid s.call g).after

-- ---- The ranged model's run of the same calls
-- a step is a call of the model: its answer, the sets that the numbers hold after it, and the entries that it wrote, in their order
pub record IsModel (s : Step) (r : CallResult InvalidUse (List Entry) (Sets ranged)) : Type 0 where
  pub answer : s.answered.outcome ≡ outcome_of r.answer
  pub after : view_of s.sets ≡ r.after
  pub entries : written s ≡ pending r.log

-- at every step, from the model's sets m
abbrev pub ModelAlong : List Step → Sets ranged → Type 0
ModelAlong [] m = Unit {0}
ModelAlong (s ∷ steps) m = IsModel s (step ranged s.call m) × ModelAlong steps (step ranged s.call m).after
