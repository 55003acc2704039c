-- A step that meets its call's contract, from well-formed sets, is the model's step on their view: its answer, its sets and its entries;
-- and they stay well formed.
use Rattle.model.specs.Prelude.{ℕ, le_trans, refl, sym, ap, subst, ◌∙◌, Bool, true, false, Option, None, Some, option_map, List, [], map}
use Rattle.model.specs.Prelude.{eqb, leb, length, set, slice_get}
use Rattle.model.specs.declared.{Extent.Extent, InvalidUse.InvalidUse, LogHead.LogHead, Refusal.Refusal, Selector.Selector}
use Rattle.model.specs.{declared.{TrackerIndex.TrackerIndex}, Base.{All, AllO}}
use Rattle.model.specs.Sets.{Numbers, Set, Tracker, slot_at, head_of, capacity}
use Rattle.model.specs.Refusals.{first_failing, single_refusal, set_refusal, sparse_refusal}
use Rattle.model.specs.Calls.{done, CallResult, unless, Call, call_merge_single, call_merge_usage_scope, call_set_single}
use Rattle.model.specs.Calls.{call_set_from_usage_scope, call_set_from_tracker, call_set_and_remove_sparse, merge_single, merge_usage_scope}
use Rattle.model.specs.Calls.{set_single, set_from_usage_scope, set_from_tracker, set_and_remove_sparse, sparse_one, sparse_all, Sets}
use Rattle.model.specs.{Calls.{nothing, into, with_scopes, with_trackers, with₁, with₂, step}, Texture.{Held, single, Entry, ranged}}
use Rattle.model.specs.{WellFormed.{scope_fits, tracker_fits}, Log.{pending, outcome_of, merging, logging}}
use Rattle.model.specs.{ListLaws.{all_set, all_elem, elem_map, set_map}, BoolLaws.{by_test, both, and_left, and_right}}
use Rattle.std.specs.Prelude.{◌/◌, ◌≤◌, ◌≡◌, ◌&&◌, ◌∷◌, if◌then◌else◌}
use Rattle.std.specs.Bool.{MatchBool}
use Rattle.call_merge.specs.{Merged.Merged, Contract.{MergeSingle, MergeUsageScope}}
use Rattle.log_head.specs.Log.{log_of, Logs}
use Rattle.set_storage.specs.{Lent.{LentScope, LentTracker, scope_in, tracker_in, scope_test, tracker_test}}
use Rattle.call_remove.specs.Removed.{Removed, SetAndRemoveSparse}
use Rattle.agreement.specs.{WellFormedSets.{Word, GivenWord}, LogBound.{entries, owned_states, of_tracker, owned_of}}
use Rattle.agreement.proofs.EachCall.{merge_single_fits, merge_usage_scope_fits, set_single_fits, set_from_usage_scope_fits}
use Rattle.agreement.proofs.EachCall.{set_from_tracker_fits, sparse_fits, set_single_owned, set_from_usage_scope_owned}
use Rattle.agreement.proofs.EachCall.{set_from_tracker_owned, sparse_owned}
use Rattle.texture_track.specs.Tracked.{TrackerCall}
use Rattle.call_set.specs.Contract.{SetSingle}
use Rattle.call_join.specs.Contract.{SetFromUsageScope, SetFromTracker}
use Rattle.track.specs.Trace.{Lent, view_of, Ready, Step, LogStays, NoCall, MergedAt, TrackedAt, RemovedAt, At₁, At₂, Ran}
use Rattle.track.specs.Trace.{written}
use Rattle.track.proofs.LogLaws.{Empty, AsOwn, as_own}
use Rattle.model.specs.Log.{Answered}

-- ---- A set that passes its test is well formed
pub scope_well : (a : LentScope) → scope_test a ≡ true → scope_fits (scope_in a) ≡ true
scope_well a p = and_left (scope_fits (scope_in a)) _ p

pub tracker_well : (a : LentTracker) → tracker_test a ≡ true → tracker_fits (tracker_in a) ≡ true
tracker_well a p =
    let c = capacity (tracker_in a).set.numbers in
    and_left (tracker_fits (tracker_in a)) (leb c (length a.starts / 3))
    (and_left (tracker_fits (tracker_in a) && leb c (length a.starts / 3)) _ p)

-- ---- A set that a call wrote: with the numbers and the room of before, it is well formed
scope_again : (a b : LentScope) (x : Set Held) → scope_in b ≡ x → length b.ranges ≡ length a.ranges
    → x.numbers ≡ (scope_in a).numbers → scope_fits x ≡ true
    → scope_test a ≡ true → scope_test b ≡ true
scope_again a b x view long same fits test = rw (long, view) (both fits (rw same (and_right (scope_fits (scope_in a)) _ test)))

tracker_again : (a b : LentTracker) (x : Tracker Held) → tracker_in b ≡ x → length b.starts ≡ length a.starts
    → length b.ends ≡ length a.ends
    → x.set.numbers ≡ (tracker_in a).set.numbers → tracker_fits x ≡ true → tracker_test a ≡ true → tracker_test b ≡ true
tracker_again a b x view long longer same fits test =
    let t = tracker_fits (tracker_in a) in let room = leb (capacity (tracker_in a).set.numbers) (length a.starts / 3) in
    rw (long, longer, view) (both (both fits (rw same (and_right t room (and_left (t && room) _ test))))
    (rw same (and_right (t && room) _ test)))

-- ---- A call of the model that is refused, or not: what holds of the sets before and after holds of it
module _ {C L X : Type 0} (o : Option Refusal) (was : X) (out : CallResult C L X) where
  kept : {N : Type 0} (f : X → N) → f out.after ≡ f was → f (unless o was out).after ≡ f was
  kept f e = go o
    where
      go : (o : Option Refusal) → f (unless o was out).after ≡ f was
      go None = e
      go (Some r) = refl

  quiet : out.log ≡ [] → (unless o was out).log ≡ []
  quiet e = go o
    where
      go : (o : Option Refusal) → (unless o was out).log ≡ []
      go None = e
      go (Some r) = refl

-- ---- The sparse call keeps the numbers of both its sets
abbrev Pair : Type 0
Pair = Tracker Held × Set Held

abbrev numbers_in : Pair → Numbers × Numbers
numbers_in p = (p.0.set.numbers, p.1.numbers)

sparse_one_lem : (i : ℕ) (p : Pair) → numbers_in (sparse_one ranged i p).after ≡ numbers_in p
sparse_one_lem i p = by_test (λ (r : CallResult InvalidUse (List Entry) Pair). numbers_in r.after ≡ numbers_in p)
    (slot_at (single 0) p.1 i).owned (λ e. refl) (λ e. refl)

sparse_numbers : (is : List ℕ) (p : Pair) → numbers_in (sparse_all ranged is p).after ≡ numbers_in p
sparse_numbers [] p = refl
sparse_numbers (i ∷ is) p = sparse_numbers is (sparse_one ranged i p).after ∙ sparse_one_lem i p

sparse_done : (is : List ℕ) (p : Pair) → (sparse_all ranged is p).answer ≡ done
sparse_done [] p = refl
sparse_done (i ∷ is) p = refl

-- its contract, of any call m of the model
abbrev Sparse : List ℕ → Bool → CallResult InvalidUse (List Entry) Pair → LentTracker → LentScope → LogHead → List ℕ → Answered
    → LentTracker → List ℕ → List ℕ → Type 0
Sparse is fits m a g h l x b t l' = Removed is fits m h a.table a.starts a.ends g.table g.ranges l x
    b.table b.starts b.ends t l'

-- ---- What a step that is the model's gives
pub record Follows (r : CallResult InvalidUse (List Entry) (Sets ranged)) (s : Step) : Type 0 where
  pub answer : s.answered.outcome ≡ outcome_of r.answer
  pub after : view_of s.sets ≡ r.after
  pub entries : written s ≡ pending r.log
  pub ready : Ready s.sets

module _ (k : Lent) (ready : Ready k) (s : Step) (empty : Empty (log_of s.log s.emptied.head)) where
  abbrev ScopeReady : LentScope → Type 0
  ScopeReady a = scope_test a ≡ true

  abbrev TrackerReady : LentTracker → Type 0
  TrackerReady t = tracker_test t ≡ true

  -- what is handed no log
  no_entries : LogStays s → written s ≡ []
  no_entries c = rw (c.head, empty.none)

  no_call : NoCall k s → Follows (nothing ranged (view_of k)) s
  no_call c = record {
    answer = c.answer;
    after = ap view_of c.sets;
    entries = no_entries c.log;
    ready = subst Ready (sym c.sets) ready;
  }

  -- a merge into a scope a, at n
  merged : {named : ℕ → Type 0} (n : ℕ) (a : LentScope) (fits : Bool) (m : CallResult InvalidUse (List Entry) (Set Held)) → ScopeReady a
      → fits ≡ true
      → m.log ≡ [] → m.after.numbers ≡ (scope_in a).numbers → scope_fits m.after ≡ true
      → MergedAt n (λ x b. Merged named fits m a.table a.ranges x b.table b.ranges) k s
      → Follows (into ranged m (λ x. with_scopes ranged (view_of k) (set (map scope_in k.scopes) n x))) s
  unfolding merging first_failing
  merged n a fits m test f silent same well c =
      let p = c.contract in let b = c.scope in
      let view : scope_in b ≡ m.after = p.view ∙ ap (λ (t : Bool). (merging t (scope_in a) m).after) f in
      record {
        answer = p.answer ∙ ap (λ (t : Bool). outcome_of (merging t (scope_in a) m).answer) f;
        after = ap view_of c.sets ∙ ap (with_scopes ranged (view_of k)) (set_map scope_in k.scopes n b
            ∙ ap (set (map scope_in k.scopes) n) view);
        entries = no_entries c.log ∙ sym (ap pending silent);
        ready = subst Ready (sym c.sets) (record {
          scopes = all_set ScopeReady k.scopes n b
              (scope_again a b m.after view p.stays.ranges.long same well test) ready.scopes;
          trackers = ready.trackers;
        });
      }

  -- the log of a tracker's call, on what is handed to it
  module _ {X : Type 0} (was : X) (o : Option Refusal) (out : CallResult InvalidUse (List Entry) X) (d : out.answer ≡ done)
      (room : entries (unless o was out).log ≤ s.emptied.head.free) where
    own : AsOwn (log_of s.log s.emptied.head) was (unless o was out)
    own = as_own (log_of s.log s.emptied.head) was o out d empty room

    logs_answer : Logs (logging true (log_of s.log s.emptied.head) was (unless o was out)) s.log s.answered s.logged
        → s.answered.outcome ≡ outcome_of (unless o was out).answer
    logs_answer c = c.answer ∙ ap outcome_of own.answer

    logs_entries : Logs (logging true (log_of s.log s.emptied.head) was (unless o was out)) s.log s.answered s.logged
        → written s ≡ pending (unless o was out).log
    logs_entries c = rw (c.head, c.entries) own.entries

  -- a call into a tracker a, at n
  tracked : {named : ℕ → Type 0} (n : ℕ) (a : LentTracker) (fits : Bool) (o : Option Refusal)
      (out : CallResult InvalidUse (List Entry) (Tracker Held))
      → TrackerReady a → fits ≡ true
      → out.answer ≡ done → out.after.set.numbers ≡ (tracker_in a).set.numbers → tracker_fits (unless o (tracker_in a) out).after ≡ true
      → entries (unless o (tracker_in a) out).log ≤ owned_states (tracker_in a).set.slots
      → owned_states (tracker_in a).set.slots ≤ s.emptied.head.free
      → TrackedAt n (TrackerCall named fits (unless o (tracker_in a) out) a) k s
      → Follows (into ranged (unless o (tracker_in a) out) (λ x. with_trackers ranged (view_of k) (set (map tracker_in k.trackers) n x))) s
  tracked {named} n a fits o out test f d same well few room c =
      let m = unless o (tracker_in a) out in let b = c.tracker in
      let p = subst (λ (t : Bool). TrackerCall named t m a s.emptied.head s.log s.answered b s.logged) f c.contract in
      let r = le_trans few room in let view : tracker_in b ≡ m.after = p.call.view ∙ (own (tracker_in a) o out d r).after in
      record {
        answer = logs_answer (tracker_in a) o out d r p.call.log;
        after = ap view_of c.sets ∙ ap (with_trackers ranged (view_of k)) (set_map tracker_in k.trackers n b
            ∙ ap (set (map tracker_in k.trackers) n) view);
        entries = logs_entries (tracker_in a) o out d r p.call.log;
        ready = subst Ready (sym c.sets) (record {
          scopes = ready.scopes;
          trackers = all_set TrackerReady k.trackers n b
              (tracker_again a b m.after view p.stays.starts.long p.stays.ends.long
              (kept o (tracker_in a) out (λ (t : Tracker Held). t.set.numbers) same) well test) ready.trackers;
        });
      }

  -- the sparse call, into a tracker a at n and out of a scope g at m
  removed : {is : List ℕ} (n m : ℕ) (a : LentTracker) (g : LentScope) (fits : Bool) (o : Option Refusal)
      (out : CallResult InvalidUse (List Entry) Pair)
      → TrackerReady a → ScopeReady g → fits ≡ true
      → out.answer ≡ done → numbers_in out.after ≡ numbers_in (tracker_in a, scope_in g)
      → (tracker_fits (unless o (tracker_in a, scope_in g) out).after.0 ≡ true)
      × (scope_fits (unless o (tracker_in a, scope_in g) out).after.1 ≡ true)
      → entries (unless o (tracker_in a, scope_in g) out).log ≤ owned_states (tracker_in a).set.slots
      → owned_states (tracker_in a).set.slots ≤ s.emptied.head.free
      → RemovedAt n m g (Sparse is fits (unless o (tracker_in a, scope_in g) out) a g) k s
      → Follows (into ranged (unless o (tracker_in a, scope_in g) out)
      (λ x. record { scopes = set (map scope_in k.scopes) m x.1; trackers = set (map tracker_in k.trackers) n x.0 })) s
  removed {is} n m a g fits o out test test' f d same well few room c =
      let was : Pair = (tracker_in a, scope_in g) in let r = unless o was out in let b = c.tracker in
      let h : LentScope = record { table = c.table; ranges = g.ranges } in
      let p = subst (λ (t : Bool). Sparse is t r a g s.emptied.head s.log s.answered b c.table s.logged) f c.contract in
      let enough = le_trans few room in let after = (own was o out d enough).after in
      let view : tracker_in b ≡ r.after.0 = ap (λ (x : Pair). x.0) (p.call.view ∙ after) in
      let view' : scope_in h ≡ r.after.1 = ap (λ (x : Pair). x.1) (p.call.view ∙ after) in
      let numbers = kept o was out numbers_in same in
      record {
        answer = logs_answer was o out d enough p.call.log;
        after = ap view_of c.sets ∙ (λ i. record {
          scopes = (set_map scope_in k.scopes m h ∙ ap (set (map scope_in k.scopes) m) view') i;
          trackers = (set_map tracker_in k.trackers n b ∙ ap (set (map tracker_in k.trackers) n) view) i;
        });
        entries = logs_entries was o out d enough p.call.log;
        ready = subst Ready (sym c.sets) (record {
          scopes = all_set ScopeReady k.scopes m h
              (scope_again g h r.after.1 view' refl (ap (λ (x : Numbers × Numbers). x.1) numbers) well.1 test') ready.scopes;
          trackers = all_set TrackerReady k.trackers n b
              (tracker_again a b r.after.0 view p.stays.starts.long p.stays.ends.long
              (ap (λ (x : Numbers × Numbers). x.0) numbers) well.0 test) ready.trackers;
        });
      }

  -- ---- The six calls
  -- at one set of a list, and at two: they are there and ready, or it is no call; R is what is known of the first
  module _ {A B : Type 0} (l : List A) (view : A → B) (P : A → Type 0) (given : All P l) (R : Option B → Type 0) (n : ℕ) where
    at_one : (call : A → Type 0) (r : B → CallResult InvalidUse (List Entry) (Sets ranged))
        → ((a : A) → P a → R (Some (view a)) → call a → Follows (r (view a)) s)
        → R (slice_get (map view l) n) → At₁ (slice_get l n) (NoCall k s) call
        → Follows (with₁ ranged (view_of k) (slice_get (map view l) n) r) s
    at_one call r h = rw (elem_map view l n) (go (slice_get l n) (all_elem P l n given))
      where
        go : (o : Option A) → AllO P o → R (option_map view o) → At₁ o (NoCall k s) call
            → Follows (with₁ ranged (view_of k) (option_map view o) r) s
        go None p q c = no_call c
        go (Some a) p q c = h a p q c

    at_two : {C D : Type 0} (l' : List C) (view' : C → D) (P' : C → Type 0) → All P' l'
        → (m : ℕ) (call : A → C → Type 0) (r : B → D → CallResult InvalidUse (List Entry) (Sets ranged))
        → ((a : A) (g : C) → P a → P' g → R (Some (view a)) → call a g → Follows (r (view a) (view' g)) s)
        → R (slice_get (map view l) n) → At₂ (slice_get l n) (slice_get l' m) (NoCall k s) call
        → Follows (with₂ ranged (view_of k) (slice_get (map view l) n) (slice_get (map view' l') m) r) s
    at_two {C} l' view' P' given' m call r h =
        rw (elem_map view l n, elem_map view' l' m) (go (slice_get l n) (slice_get l' m) (all_elem P l n given) (all_elem P' l' m given'))
      where
        go : (o : Option A) (u : Option C) → AllO P o → AllO P' u → R (option_map view o) → At₂ o u (NoCall k s) call
            → Follows (with₂ ranged (view_of k) (option_map view o) (option_map view' u) r) s
        go None u p p' q c = no_call c
        go (Some a) None p p' q c = no_call c
        go (Some a) (Some g) p p' q c = h a g p p' q c

  abbrev Nothing : Option (Set Held) → Type 0
  Nothing o = Unit {0}

  abbrev EnoughFree : Option (Tracker Held) → Type 0
  EnoughFree o = of_tracker o ≤ s.emptied.head.free

  abbrev put_scope : ℕ → CallResult InvalidUse (List Entry) (Set Held) → CallResult InvalidUse (List Entry) (Sets ranged)
  put_scope n r = into ranged r (λ x. with_scopes ranged (view_of k) (set (map scope_in k.scopes) n x))

  abbrev put_tracker : ℕ → CallResult InvalidUse (List Entry) (Tracker Held) → CallResult InvalidUse (List Entry) (Sets ranged)
  put_tracker n r = into ranged r (λ x. with_trackers ranged (view_of k) (set (map tracker_in k.trackers) n x))

  merge_single_lem : (n : ℕ) (i : TrackerIndex) (sh : Extent) (sel : Option Selector) (st : ℕ) → Word st → (a : LentScope) → ScopeReady a
      → MergedAt n (MergeSingle a i sh sel st) k s → Follows (put_scope n (merge_single ranged (scope_in a) i.0 sh sel st)) s
  merge_single_lem n i sh sel st w a p c =
      let x = scope_in a in let o = single_refusal (head_of x) i.0 sh sel st in
      merged n a (scope_test a) (merge_single ranged x i.0 sh sel st) p p (quiet o x _ refl)
      (kept o x _ (λ (y : Set Held). y.numbers) refl)
      (merge_single_fits x (scope_well a p) i.0 sh sel st w)
      c

  merge_scope : (n : ℕ) (a g : LentScope) → ScopeReady a → ScopeReady g → MergedAt n (MergeUsageScope a g) k s
      → Follows (put_scope n (merge_usage_scope ranged (scope_in a) (scope_in g))) s
  merge_scope n a g p q =
      let x = scope_in a in let o = set_refusal (head_of x) (head_of (scope_in g)) in
      merged n a (scope_test a && scope_test g) (merge_usage_scope ranged x (scope_in g)) p (both p q) (quiet o x _ refl)
      (kept o x _ (λ (y : Set Held). y.numbers) refl)
      (merge_usage_scope_fits x (scope_well a p) (scope_in g) (scope_well g q))

  set_single_lem : (n : ℕ) (i : TrackerIndex) (sh : Extent) (sel : Selector) (st : ℕ) → Word st → (a : LentTracker) → TrackerReady a
      → owned_states (tracker_in a).set.slots ≤ s.emptied.head.free → TrackedAt n (SetSingle a i sh sel st) k s
      → Follows (put_tracker n (set_single ranged (tracker_in a) i.0 sh sel st)) s
  set_single_lem n i sh sel st w a p free =
      let x = tracker_in a in
      tracked n a (tracker_test a) (single_refusal (head_of x.set) i.0 sh (Some sel) st) _ p p refl refl
      (set_single_fits x (tracker_well a p) i.0 sh sel st w) (set_single_owned x (tracker_well a p) i.0 sh sel st w) free

  set_from_scope : (n : ℕ) (a : LentTracker) (g : LentScope) → TrackerReady a → ScopeReady g
      → owned_states (tracker_in a).set.slots ≤ s.emptied.head.free → TrackedAt n (SetFromUsageScope a g) k s
      → Follows (put_tracker n (set_from_usage_scope ranged (tracker_in a) (scope_in g))) s
  set_from_scope n a g p q free =
      let x = tracker_in a in let y = scope_in g in
      tracked n a (tracker_test a && scope_test g) (set_refusal (head_of x.set) (head_of y)) _ p (both p q) refl refl
      (set_from_usage_scope_fits x (tracker_well a p) y (scope_well g q))
      (set_from_usage_scope_owned x (tracker_well a p) y (scope_well g q)) free

  set_from_tracker_lem : (n : ℕ) (a g : LentTracker) → TrackerReady a → TrackerReady g
      → owned_states (tracker_in a).set.slots ≤ s.emptied.head.free → TrackedAt n (SetFromTracker a g) k s
      → Follows (put_tracker n (set_from_tracker ranged (tracker_in a) (tracker_in g))) s
  set_from_tracker_lem n a g p q free =
      let x = tracker_in a in let y = tracker_in g in
      tracked n a (tracker_test a && tracker_test g) (set_refusal (head_of x.set) (head_of y.set)) _ p (both p q) refl refl
      (set_from_tracker_fits x (tracker_well a p) y (tracker_well g q))
      (set_from_tracker_owned x (tracker_well a p) y (tracker_well g q)) free

  sparse : (n m : ℕ) (is : List ℕ) (a : LentTracker) (g : LentScope) → TrackerReady a → ScopeReady g
      → owned_states (tracker_in a).set.slots ≤ s.emptied.head.free → RemovedAt n m g (SetAndRemoveSparse a g is) k s
      → Follows (into ranged (set_and_remove_sparse ranged (tracker_in a) (scope_in g) is)
      (λ x. record { scopes = set (map scope_in k.scopes) m x.1; trackers = set (map tracker_in k.trackers) n x.0 })) s
  sparse n m is a g p q free =
      let x = tracker_in a in let y = scope_in g in
      removed n m a g (tracker_test a && scope_test g) (sparse_refusal (head_of x.set) (head_of y) is) (sparse_all ranged is (x, y)) p q
      (both p q) (sparse_done is (x, y)) (sparse_numbers is (x, y))
      (sparse_fits x (tracker_well a p) y (scope_well g q) is) (sparse_owned x (tracker_well a p) y (scope_well g q) is) free

  -- a call on two sets is none where they are one
  apart : (b : Bool) (call : Type 0) (r : CallResult InvalidUse (List Entry) (Sets ranged)) → (call → Follows r s)
      → MatchBool b (NoCall k s) call → Follows (if b then nothing ranged (view_of k) else r) s
  apart true call r h c = no_call c
  apart false call r h c = h c

  pub follows : (c : Call) → GivenWord c → owned_of c (view_of k) ≤ s.emptied.head.free → Ran c k s → Follows (step ranged c (view_of k)) s
  unfolding step
  follows (call_merge_single n i sh sel st) w room = at_one k.scopes scope_in ScopeReady ready.scopes Nothing n _ _
      (λ a p q. merge_single_lem n i sh sel st w a p) tt
  follows (call_merge_usage_scope n m) w room =
      apart (eqb n m) _ _ (at_two k.scopes scope_in ScopeReady ready.scopes Nothing n k.scopes scope_in ScopeReady
      ready.scopes m _ _ (λ a g p p' q. merge_scope n a g p p') tt)
  follows (call_set_single n i sh sel st) w room = at_one k.trackers tracker_in TrackerReady ready.trackers EnoughFree n _ _
      (set_single_lem n i sh sel st w) room
  follows (call_set_from_usage_scope n m) w room =
      at_two k.trackers tracker_in TrackerReady ready.trackers EnoughFree n k.scopes scope_in ScopeReady
      ready.scopes m _ _ (set_from_scope n) room
  follows (call_set_from_tracker n m) w room =
      apart (eqb n m) _ _ (at_two k.trackers tracker_in TrackerReady ready.trackers EnoughFree n k.trackers tracker_in TrackerReady
      ready.trackers m _ _ (set_from_tracker_lem n) room)
  follows (call_set_and_remove_sparse n m is) w room =
      at_two k.trackers tracker_in TrackerReady ready.trackers EnoughFree n k.scopes scope_in ScopeReady
      ready.scopes m _ _ (sparse n m is) room
