-- The six calls on sets, written once over a representation of one texture, and any number of scopes and trackers.
use Rattle.std.specs.Prelude.{◌∷◌, ◌++◌, if◌then◌else◌}
use Rattle.model.specs.Prelude.{ℕ, true, false, Option, None, Some, option_map, List, [], eqb, set, slice_get}
use Rattle.model.specs.declared.{UsageFlags.UsageFlags, Extent.Extent, Selector.Selector, TrackerIndex.TrackerIndex, Refusal.Refusal}
use Rattle.model.specs.{Base.{each, each_at₂, over₂, Stop, fine, walk₂}, Representation.{Ends, Representation}}
use Rattle.model.specs.Sets.{Slot, Set, Tracker, slot_at, with_slots, with_tracker, head_of, Opening, open_set, open_tracker}
use Rattle.model.specs.Refusals.{first_failing, single_refusal, set_refusal, sparse_refusal, opening_refusal, opens}

-- ---- What a call gives
-- something of the texture at an index
pub record Indexed (A : Type 0) : Type 0 where
  pub index : ℕ
  pub what : A

-- "an answer by cases, refusal, clash or done"
pub data Answer (C : Type 0) : Type 0 where
  done : Answer C
  refused : Refusal → Answer C
  in_conflict : Indexed C → Answer C

-- the answer of a call that is not refused: done, or the conflict that it met
abbrev pub answer : {C : Type 0} → Option (Indexed C) → Answer C
answer None = done
answer (Some c) = in_conflict c

-- its answer, what it adds to the log, and what it was handed as it is afterwards
pub record CallResult (C L X : Type 0) : Type 0 where
  pub answer : Answer C
  pub log : List (Indexed L)
  pub after : X

-- "Everything lent stays."
abbrev pub turned_away : {C L X : Type 0} → Refusal → X → CallResult C L X
turned_away r x = record { answer = refused r; log = []; after = x }

-- what a call gives, unless its checks refuse it
abbrev pub unless : {C L X : Type 0} → Option Refusal → X → CallResult C L X → CallResult C L X
unless (Some r) was out = turned_away r was
unless None was out = out

-- ---- The calls of demand 3, on sets by their positions: into the first, from the second
-- "the two merges and the four tracker calls of file 4, with any arguments"
pub data Call : Type 0 where
  call_merge_single : ℕ → TrackerIndex → Extent → Option Selector → ℕ → Call
  call_merge_usage_scope : ℕ → ℕ → Call
  call_set_single : ℕ → TrackerIndex → Extent → Selector → ℕ → Call
  call_set_from_usage_scope : ℕ → ℕ → Call
  call_set_from_tracker : ℕ → ℕ → Call
  call_set_and_remove_sparse : ℕ → ℕ → List ℕ → Call

-- "An unowned one becomes owned, with the given shape."
abbrev pub owning : {H : Type 0} → Extent → H → Slot H
owning sh h = record { owned = true; extent = sh; held = h }

module _ (K : Representation) where
  -- `TextureUsageScope`
  abbrev pub Scope : Type 0
  Scope = Set K.Held

  -- what a call gives, with the conflicts and transitions of the representation
  abbrev pub Result : Type 0 → Type 0
  Result X = CallResult K.Conflict K.Log X

  -- ---- Into a scope
  -- `insert_or_merge`: an owned index merges what is given, an unowned one inserts it
  abbrev pub merge_slot : UsageFlags → Extent → K.Given → ℕ → Slot K.Held → Stop (Indexed K.Conflict) (Slot K.Held)
  merge_slot p sh g i s =
      if s.owned then
      (let w = K.merge p sh s.held g in
      record { value = owning sh w.value; conflict = option_map (λ c. record { index = i; what = c }) w.conflict })
      else fine (owning sh (K.insert p sh g))

  -- `TextureUsageScope::merge_single`
  abbrev pub merge_single : Scope → ℕ → Extent → Option Selector → ℕ → Result Scope
  merge_single s i sh sel st =
      let w = merge_slot s.flags sh (K.use_of sh sel st) i (slot_at (K.fresh 0) s i) in
      unless (single_refusal (head_of s) i sh sel st) s
      (record { answer = answer w.conflict; log = []; after = with_slots s (set s.slots i w.value) })

  -- an index that the given scope owns merges what it passes on, another stays
  abbrev pub merge_given : UsageFlags → ℕ → Slot K.Held → Slot K.Held → Stop (Indexed K.Conflict) (Slot K.Held)
  merge_given p i s g = if g.owned then merge_slot p g.extent (K.pass g.held) i s else fine s

  -- `TextureUsageScope::merge_usage_scope`: "A scope merge goes by ascending index and stops at the first clash."
  abbrev pub merge_usage_scope : Scope → Scope → Result Scope
  merge_usage_scope s g =
      let w = walk₂ (merge_given s.flags) 0 s.slots g.slots in
      unless (set_refusal (head_of s) (head_of g)) s (record { answer = answer w.conflict; log = []; after = with_slots s w.value })

  -- ---- Into a tracker
  -- `insert_or_barrier_update`: an owned index is updated by the given end, an unowned one inserts the given start and end
  abbrev pub set_slot : UsageFlags → Extent → K.Given → K.Given → Slot (Ends K.Held) → Slot (Ends K.Held)
  set_slot p sh from to s =
      if s.owned then owning sh (K.update p sh s.held to)
      else owning sh (record { start = K.insert p sh from; end = K.insert p sh to })

  -- the `barrier` of it: an unowned index has no transition
  abbrev pub log_slot : UsageFlags → ℕ → Extent → K.Given → ℕ → Slot (Ends K.Held) → List (Indexed K.Log)
  log_slot p mask sh from i s =
      if s.owned then record { index = i; what = K.log p mask sh s.held.end from } ∷ [] else []

  -- the ends of an index that is not there
  abbrev pub no_ends : Ends K.Held
  no_ends = record { start = K.fresh 0; end = K.fresh 0 }

  -- `TextureTracker::set_single`
  abbrev pub set_single : Tracker K.Held → ℕ → Extent → Selector → ℕ → Result (Tracker K.Held)
  set_single t i sh sel st =
      let p = t.set.flags in let g = K.use_of sh (Some sel) st in let s = slot_at no_ends t.set i in
      unless (single_refusal (head_of t.set) i sh (Some sel) st) t
      (record { answer = done; log = log_slot p t.mask sh g i s; after = with_tracker t (set t.set.slots i (set_slot p sh g g s)) })

  -- every index that a given set owns; `from` and `to` are what its slot hands in as start and end
  module _ {G : Type 0} (from to : G → K.Given) where
    -- an index that the given set owns is set, another stays
    abbrev pub set_given : UsageFlags → ℕ → Slot (Ends K.Held) → Slot G → Slot (Ends K.Held)
    set_given p i s g = if g.owned then set_slot p g.extent (from g.held) (to g.held) s else s

    -- the transitions of an index that the given set owns
    abbrev pub log_given : UsageFlags → ℕ → ℕ → Slot (Ends K.Held) → Slot G → List (Indexed K.Log)
    log_given p mask i s g = if g.owned then log_slot p mask g.extent (from g.held) i s else []

    -- "in calls over a set each one that set owns", by ascending index
    abbrev pub set_from : Tracker K.Held → Set G → Result (Tracker K.Held)
    set_from t g =
        unless (set_refusal (head_of t.set) (head_of g)) t (record {
          answer = done;
          log = each_at₂ (log_given t.set.flags t.mask) 0 t.set.slots g.slots;
          after = with_tracker t (over₂ (set_given t.set.flags) 0 t.set.slots g.slots);
        })

  -- `TextureTracker::set_from_usage_scope`
  abbrev pub set_from_usage_scope : Tracker K.Held → Scope → Result (Tracker K.Held)
  set_from_usage_scope = set_from K.pass K.pass

  -- `TextureTracker::set_from_tracker`: "Only a tracker join hands in an end apart from its start."
  abbrev pub set_from_tracker : Tracker K.Held → Tracker K.Held → Result (Tracker K.Held)
  set_from_tracker t g = set_from (λ (e : Ends K.Held). K.pass e.start) (λ (e : Ends K.Held). K.pass e.end) t g.set

  -- what a call on a tracker and a scope gives
  abbrev pub Both : Type 0
  Both = Result (Tracker K.Held × Scope)

  -- one listed index: passed over unless the scope owns it, "and the scope then owns it no more"
  abbrev pub sparse_one : ℕ → Tracker K.Held × Scope → Both
  sparse_one i ts =
      let t = ts.0 in let s = ts.1 in let g = slot_at (K.fresh 0) s i in let x = slot_at no_ends t.set i in
      if g.owned then record {
        answer = done;
        log = log_slot t.set.flags t.mask g.extent (K.pass g.held) i x;
        after = (
          with_tracker t (set t.set.slots i (set_slot t.set.flags g.extent (K.pass g.held) (K.pass g.held) x)),
          with_slots s (set s.slots i (record { owned = false; extent = g.extent; held = g.held })),
        );
      } else record { answer = done; log = []; after = ts }

  -- the listed indices in their order: "An index listed twice counts once", as the scope owns it the first time only
  abbrev pub sparse_all : List ℕ → Tracker K.Held × Scope → Both
  sparse_all [] ts = record { answer = done; log = []; after = ts }
  sparse_all (i ∷ is) ts =
      let r = sparse_one i ts in let more = sparse_all is r.after in
      record { answer = done; log = r.log ++ more.log; after = more.after }

  -- `TextureTracker::set_and_remove_from_usage_scope_sparse`
  abbrev pub set_and_remove_sparse : Tracker K.Held → Scope → List ℕ → Both
  set_and_remove_sparse t s is = unless (sparse_refusal (head_of t.set) (head_of s) is) (t, s) (sparse_all is (t, s))

  -- ---- Any number of scopes and trackers
  -- scopes and trackers, each at its position (01: a keeper of them)
  pub record Sets : Type 0 where
    pub scopes : List Scope
    pub trackers : List (Tracker K.Held)

  -- the scopes anew, the trackers as they were
  abbrev pub with_scopes : Sets → List Scope → Sets
  with_scopes k l = record { scopes = l; trackers = k.trackers }

  -- the trackers anew, the scopes as they were
  abbrev pub with_trackers : Sets → List (Tracker K.Held) → Sets
  with_trackers k l = record { scopes = k.scopes; trackers = l }

  -- a call on sets that are not there is none, and so is one on a set twice: "no call is handed the same set twice"
  abbrev pub nothing : Sets → Result Sets
  nothing k = record { answer = done; log = []; after = k }

  -- what a call gives of its own sets, put back among all of them
  abbrev pub into : {X : Type 0} → Result X → (X → Sets) → Result Sets
  into r f = record { answer = r.answer; log = r.log; after = f r.after }

  -- a call on a set, if it is there
  abbrev pub with₁ : {X : Type 0} → Sets → Option X → (X → Result Sets) → Result Sets
  with₁ k None f = nothing k
  with₁ k (Some x) f = f x

  -- a call on two sets, if both are there
  abbrev pub with₂ : {X Y : Type 0} → Sets → Option X → Option Y → (X → Y → Result Sets) → Result Sets
  with₂ k None y f = nothing k
  with₂ k (Some x) None f = nothing k
  with₂ k (Some x) (Some y) f = f x y

  -- a call of the list, on the sets at the positions that it names
  unfoldable pub step : Call → Sets → Result Sets
  unfolding first_failing
  step (call_merge_single n i sh sel st) k =
      with₁ k (slice_get k.scopes n) (λ s. into (merge_single s i.0 sh sel st) (λ x. with_scopes k (set k.scopes n x)))
  step (call_merge_usage_scope n m) k =
      if eqb n m then nothing k else with₂ k (slice_get k.scopes n) (slice_get k.scopes m)
      (λ s g. into (merge_usage_scope s g) (λ x. with_scopes k (set k.scopes n x)))
  step (call_set_single n i sh sel st) k =
      with₁ k (slice_get k.trackers n) (λ t. into (set_single t i.0 sh sel st) (λ x. with_trackers k (set k.trackers n x)))
  step (call_set_from_usage_scope n m) k =
      with₂ k (slice_get k.trackers n) (slice_get k.scopes m)
      (λ t g. into (set_from_usage_scope t g) (λ x. with_trackers k (set k.trackers n x)))
  step (call_set_from_tracker n m) k =
      if eqb n m then nothing k else with₂ k (slice_get k.trackers n) (slice_get k.trackers m)
      (λ t g. into (set_from_tracker t g) (λ x. with_trackers k (set k.trackers n x)))
  step (call_set_and_remove_sparse n m is) k =
      with₂ k (slice_get k.trackers n) (slice_get k.scopes m)
      (λ t s. into (set_and_remove_sparse t s is) (λ x. record { scopes = set k.scopes m x.1; trackers = set k.trackers n x.0 }))

  -- ---- Newly opened: what the checks refuse makes no set
  -- the scopes and the trackers of two lists of openings
  unfoldable pub newly : List Opening → List Opening → Sets
  unfolding opening_refusal
  newly scopes trackers = record {
    scopes = each (λ o. if opens o then open_set K.fresh o ∷ [] else []) scopes;
    trackers = each (λ o. if opens o then open_tracker K.fresh o ∷ [] else []) trackers;
  }
