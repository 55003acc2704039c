-- None of the six calls refuses with 1 to 5, 14 or 15: 1 to 3 are of an opening, 4, 5 and 15 of what a call is handed, and 14 is of the
-- calls on ranges.
use Rattle.model.specs.Prelude.{ℕ, suc, refl, subst, false, Option, None, Some, List, [], eqb, slice_get, get_or}
use Rattle.model.specs.declared.{Extent.Extent, Refusal.Refusal, Selector.Selector, UsageFlags.UsageFlags}
use Rattle.model.specs.{Base.{each, each_at, walk₂, All}, Representation.{Representation, Ends}}
use Rattle.model.specs.Sets.{Set, Tracker, Head, head_of, slot_at}
use Rattle.model.specs.Refusals.{Check, first_failing, number_of, texture_checks, selector_checks, state_checks, owned_checks}
use Rattle.model.specs.Refusals.{sparse_checks, single_refusal, set_refusal, sparse_refusal}
use Rattle.model.specs.Calls.{Indexed, Answer, done, refused, in_conflict, answer, CallResult, unless, Result, Sets, into, with₁, with₂}
use Rattle.model.specs.Calls.{Call, call_merge_single, call_merge_usage_scope, call_set_single, call_set_from_usage_scope}
use Rattle.model.specs.Calls.{call_set_from_tracker, call_set_and_remove_sparse, merge_slot, merge_given, set_from, sparse_all, step}
use Rattle.model.specs.{ListLaws.all_join, BoolLaws.by_test}
use Rattle.std.specs.Prelude.{◌≡◌, ◌∷◌, ◌++◌}
use Rattle.agreement.specs.LogBound.{listed}

abbrev Own : Refusal → Type 0
Own r = listed (number_of r) (1 ∷ 2 ∷ 3 ∷ 4 ∷ 5 ∷ 14 ∷ 15 ∷ []) ≡ false

abbrev OwnOption : Option Refusal → Type 0
OwnOption None = Unit {0}
OwnOption (Some r) = Own r

abbrev OwnAnswer : {C : Type 0} → Answer C → Type 0
OwnAnswer done = Unit {0}
OwnAnswer (refused r) = Own r
OwnAnswer (in_conflict c) = Unit {0}

-- ---- the checks
abbrev OwnCheck : Check → Type 0
OwnCheck c = Own c.answer

abbrev OwnChecks : List Check → Type 0
OwnChecks = All OwnCheck

first_own : (cs : List Check) → OwnChecks cs → OwnOption (first_failing cs)
unfolding first_failing
first_own [] t = tt
first_own (c ∷ cs) t = by_test OwnOption c.fails (λ e. t.0) (λ e. first_own cs t.1)

texture_own : (h : Head) (i : ℕ) (sh : Extent) → OwnChecks (texture_checks h i sh)
texture_own h i sh = (refl, (refl, (refl, tt)))

selector_own : (sh : Extent) (sel : Option Selector) → OwnChecks (selector_checks sh sel)
selector_own sh None = tt
selector_own sh (Some q) = (refl, (refl, (refl, (refl, (refl, tt)))))

state_own : (p : UsageFlags) (st : ℕ) → OwnChecks (state_checks p st)
state_own p st = (refl, (refl, tt))

owned_own : (h : Head) (i : ℕ) (o : Option Extent) → OwnChecks (owned_checks h i o)
owned_own h i None = tt
owned_own h i (Some sh) = texture_own h i sh

single_own : (h : Head) (i : ℕ) (sh : Extent) (sel : Option Selector) (st : ℕ) → OwnOption (single_refusal h i sh sel st)
single_own h i sh sel st =
    first_own _ (all_join OwnCheck (texture_checks h i sh ++ selector_checks sh sel) (state_checks h.flags st)
    (all_join OwnCheck (texture_checks h i sh) (selector_checks sh sel) (texture_own h i sh) (selector_own sh sel)) (state_own h.flags st))

set_own : (into given : Head) → OwnOption (set_refusal into given)
set_own into given = first_own _ (refl, go 0 given.extents)
  where
    go : (k : ℕ) (l : List (Option Extent)) → OwnChecks (each_at (owned_checks into) k l)
    go k [] = tt
    go k (o ∷ l) = all_join OwnCheck (owned_checks into k o) (each_at (owned_checks into) (suc k) l) (owned_own into k o) (go (suc k) l)

sparse_own : (into given : Head) (is : List ℕ) → OwnOption (sparse_refusal into given is)
sparse_own into given is = first_own _ (refl, go is)
  where
    go : (is : List ℕ) → OwnChecks (each (sparse_checks into given) is)
    go [] = tt
    go (i ∷ is) = all_join OwnCheck (sparse_checks into given i) (each (sparse_checks into given) is)
        (refl, owned_own into i (get_or given.extents i None)) (go is)

-- ---- the calls
unless_own : {C L X : Type 0} (o : Option Refusal) (was : X) (out : CallResult C L X) → OwnOption o → OwnAnswer out.answer
    → OwnAnswer (unless o was out).answer
unless_own None was out a b = b
unless_own (Some r) was out a b = a

answer_own : {C : Type 0} (o : Option (Indexed C)) → OwnAnswer (answer o)
answer_own None = tt
answer_own (Some c) = tt

module _ (K : Representation) where
  abbrev OwnResult : Result K (Sets K) → Type 0
  OwnResult r = OwnAnswer r.answer

  with_one : {X : Type 0} (k : Sets K) (o : Option X) (f : X → Result K (Sets K)) → ((x : X) → OwnResult (f x)) → OwnResult (with₁ K k o f)
  with_one k None f h = tt
  with_one k (Some x) f h = h x

  with_two : {X Y : Type 0} (k : Sets K) (o : Option X) (u : Option Y) (f : X → Y → Result K (Sets K))
      → ((x : X) (y : Y) → OwnResult (f x y)) → OwnResult (with₂ K k o u f)
  with_two k None u f h = tt
  with_two k (Some x) None f h = tt
  with_two k (Some x) (Some y) f h = h x y

  from_own : {G : Type 0} (from to : G → K.Given) (t : Tracker K.Held) (g : Set G) → OwnAnswer (set_from K from to t g).answer
  from_own from to t g = unless_own (set_refusal (head_of t.set) (head_of g)) t _ (set_own (head_of t.set) (head_of g)) tt

  sparse_done : (is : List ℕ) (ts : Tracker K.Held × Set K.Held) → OwnAnswer (sparse_all K is ts).answer
  sparse_done [] ts = tt
  sparse_done (i ∷ is) ts = tt

  step_own : (c : Call) (k : Sets K) → OwnResult (step K c k)
  unfolding step
  step_own (call_merge_single n i sh sel st) k =
      with_one k (slice_get k.scopes n) _ (λ s. unless_own (single_refusal (head_of s) i.0 sh sel st) s _
      (single_own (head_of s) i.0 sh sel st)
      (answer_own (merge_slot K s.flags sh (K.use_of sh sel st) i.0 (slot_at (K.fresh 0) s i.0)).conflict))
  step_own (call_merge_usage_scope n m) k =
      by_test OwnResult (eqb n m) (λ e. tt)
      (λ e. with_two k (slice_get k.scopes n) (slice_get k.scopes m) _ (λ s g. unless_own (set_refusal (head_of s) (head_of g)) s _
      (set_own (head_of s) (head_of g))
      (answer_own (walk₂ (merge_given K s.flags) 0 s.slots g.slots).conflict)))
  step_own (call_set_single n i sh sel st) k =
      with_one k (slice_get k.trackers n) _ (λ t. unless_own (single_refusal (head_of t.set) i.0 sh (Some sel) st) t _
      (single_own (head_of t.set) i.0 sh (Some sel) st) tt)
  step_own (call_set_from_usage_scope n m) k = with_two k (slice_get k.trackers n) (slice_get k.scopes m) _
      (λ t g. from_own K.pass K.pass t g)
  step_own (call_set_from_tracker n m) k =
      by_test OwnResult (eqb n m) (λ e. tt)
      (λ e. with_two k (slice_get k.trackers n) (slice_get k.trackers m) _ (λ t g. from_own (λ (e : Ends K.Held). K.pass e.start)
      (λ (e : Ends K.Held). K.pass e.end) t g.set))
  step_own (call_set_and_remove_sparse n m is) k =
      with_two k (slice_get k.trackers n) (slice_get k.scopes m) _
      (λ t s. unless_own (sparse_refusal (head_of t.set) (head_of s) is) (t, s) _
      (sparse_own (head_of t.set) (head_of s) is) (sparse_done is (t, s)))

  pub own_refusals : (c : Call) (k : Sets K) (r : Refusal) → (step K c k).answer ≡ refused r
      → listed (number_of r) (1 ∷ 2 ∷ 3 ∷ 4 ∷ 5 ∷ 14 ∷ 15 ∷ []) ≡ false
  own_refusals c k r e = subst OwnAnswer e (step_own c k)
