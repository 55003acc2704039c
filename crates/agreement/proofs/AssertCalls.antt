-- No strict assertion fires in any of the six calls on well-formed sets.
use Rattle.model.specs.Prelude.{ℕ, suc, arith, refl, Bool, true, false, not, Option, None, Some, List, [], map, eqb, length, slice_get}
use Rattle.model.specs.Prelude.{List_get_D_map, not-false, lt-ltb, ltb-true}
use Rattle.model.specs.declared.{Extent.Extent, Refusal.Refusal, Selector.Selector, UsageFlags.UsageFlags}
use Rattle.model.specs.{Base.{every, each, each_at, All}, Representation.Ends}
use Rattle.model.specs.Sets.{Numbers, Slot, Set, Tracker, head_of, own_extent, empty_slot, slot_at}
use Rattle.model.specs.Refusals.{owned_checks, sparse_checks, single_refusal, set_refusal, sparse_refusal}
use Rattle.model.specs.Calls.{no_ends, Call, call_merge_single, call_merge_usage_scope, call_set_single, call_set_from_usage_scope}
use Rattle.model.specs.{Calls.{call_set_from_tracker, call_set_and_remove_sparse, Sets}, Texture.{Held, Given, ranged, from_use, from_held}}
use Rattle.model.specs.{BoolLaws.{by_test, both}, ListLaws.{all_left, all_right, elem_of}, CheckLaws.{passed, Passed}}
use Rattle.std.specs.Prelude.{◌+◌, ◌≤◌, ◌≡◌, ◌&&◌, ◌∷◌, if◌then◌else◌}
use Rattle.agreement.specs.{Grid.{Grid, Named, named_use, named_all, grid}, Shared.{grid_of, grid_ends, entries_at, grid_at}}
use Rattle.agreement.specs.WellFormedSets.{Word, GivenWord}
use Rattle.agreement.specs.Asserts.{scope_asserts, tracker_asserts, in_bounds, unless_refused, each_owned, set_asserts, listed_in_bounds}
use Rattle.agreement.specs.{Asserts.{sparse_asserts, if_there, if_both, call_asserts}, Fits.{SlotFits, SetFits, SetsFit}}
use Rattle.agreement.proofs.{SlotLaws.{slot_fits_lem, At, single_at, flags_same, each_owned_lem}, LiftTracker.each_listed}
use Rattle.agreement.proofs.WellLaws.{FitW, FitEW, GivesW, PairsW, scopes_well, trackers_well, fit_out, ends_out, well_good, WellTracker}
use Rattle.agreement.proofs.WellLaws.{WellScope, TakenW, tracker_after, scope_after}
use Rattle.agreement.proofs.AssertLaws.{asserts_fit, insert_holds, mip_holds, spread_holds}

-- ---- one index of a scope, and of a tracker
scope_holds : (n : Numbers) (p : UsageFlags) (sh : Extent) (g : Given) (m : Named) (s : Slot Held) → GivesW p sh g m → SlotFits FitW n p s
    → At n s sh → scope_asserts p sh g s ≡ true
scope_holds n p sh g m s r t h =
    by_test (λ (x : Bool). x ≡ true) s.owned
    (λ e. let f : FitW p sh s.held = rw (h.own e) at (t.held e) in
    both (mip_holds sh s.held g m f.base.fit r.base.gives)
    (spread_holds p sh s.held g (fit_out p sh s.held r.base.measured f)))
    (λ e. insert_holds p sh g m r.base.measured r.base.gives r.states)

tracker_holds : (n : Numbers) (p : UsageFlags) (sh : Extent) (a : Given) (b : Named) (c : Given) (d : Named) (s : Slot (Ends Held))
    → PairsW p sh a b c d → SlotFits FitEW n p s → At n s sh → tracker_asserts p sh a c s ≡ true
tracker_holds n p sh a b c d s r t h =
    by_test (λ (x : Bool). x ≡ true) s.owned
    (λ e. let f : FitEW p sh s.held = rw (h.own e) at (t.held e) in
    both (mip_holds sh s.held.end a b f.base.end r.base.from.gives)
    (both (both (mip_holds sh s.held.end c d f.base.end r.base.to.gives)
    (spread_holds p sh s.held.end c (ends_out p sh s.held f.base.measured f).end))
    (asserts_fit p sh s.held c d f r.base.to.gives)))
    (λ e. both (insert_holds p sh a b r.base.from.measured r.base.from.gives r.from)
    (insert_holds p sh c d r.base.to.measured r.base.to.gives r.to))

-- what is asserted where the call is not refused
unless_holds : (o : Option Refusal) {b : Bool} → (o ≡ None → b ≡ true) → unless_refused o b ≡ true
unless_holds None h = h refl
unless_holds (Some r) h = refl

-- ---- a single use: 7 keeps its index within the set
bounds : {H : Type 0} (P : UsageFlags → Extent → H → Type 0) (s : Set H) (i : ℕ) (sh : Extent) (sel : Option Selector) (st : ℕ)
    → SetFits P s → single_refusal (head_of s) i sh sel st ≡ None → in_bounds i s.slots ≡ true
bounds P s i sh sel st f e = lt-ltb i (length s.slots) (rw f.room (ltb-true i s.numbers.textures (not-false _ (passed _ e).0)))

merge_holds : (s : Set Held) (i : ℕ) (sh : Extent) (sel : Option Selector) (st : ℕ) → Word st → WellScope s
    → unless_refused (single_refusal (head_of s) i sh sel st) (in_bounds i s.slots
    && scope_asserts s.flags sh (from_use sh sel st) (slot_at (ranged.fresh 0) s i)) ≡ true
merge_holds s i sh sel st word w =
    unless_holds (single_refusal (head_of s) i sh sel st) λ e. both (bounds FitW s i sh sel st w e)
    (scope_holds s.numbers s.flags sh (from_use sh sel st) (named_use sh sel st) (slot_at (ranged.fresh 0) s i)
    (scopes_well.used (head_of s) i sh sel st w.flags word e)
    (slot_fits_lem FitW s (ranged.fresh 0) i w) (single_at s (ranged.fresh 0) i sh sel st e))

set_holds : (t : Tracker Held) (i : ℕ) (sh : Extent) (sel : Selector) (st : ℕ) → Word st → WellTracker t
    → unless_refused (single_refusal (head_of t.set) i sh (Some sel) st)
    (in_bounds i t.set.slots && tracker_asserts t.set.flags sh (from_use sh (Some sel) st) (from_use sh (Some sel) st) (slot_at
    (no_ends ranged) t.set i)) ≡ true
set_holds t i sh sel st word w =
    unless_holds (single_refusal (head_of t.set) i sh (Some sel) st) λ e. both (bounds FitEW t.set i sh (Some sel) st w e)
    (tracker_holds t.set.numbers t.set.flags sh _ (named_use sh (Some sel) st) _ (named_use sh (Some sel) st)
    (slot_at (no_ends ranged) t.set i) (trackers_well.used (head_of t.set) i sh (Some sel) st w.flags word e)
    (slot_fits_lem FitEW t.set (no_ends ranged) i w) (single_at t.set (no_ends ranged) i sh (Some sel) st e))

-- ---- every index that a given set owns
module _ {H G : Type 0} (P : UsageFlags → Extent → H → Type 0) (Q : UsageFlags → Extent → G → Type 0) (s : Set H)
    (g : Set G) (f : Slot H → Slot G → Bool)
    (one : (x : Slot H) (y : Slot G) → SlotFits P s.numbers s.flags x → SlotFits Q g.numbers s.flags y → y.owned ≡ true
    → At s.numbers x y.extent → f x y ≡ true) where
  -- past the set's own slots none is owned
  none_owned : (k : ℕ) (xs : List (Slot G)) → Passed (each_at (owned_checks (head_of s)) k (map own_extent xs))
      → s.numbers.textures ≤ k → each_owned f [] xs ≡ true
  none_owned k [] c n = refl
  none_owned k (x ∷ xs) c n = both (go x.owned (all_left _ (owned_checks (head_of s) k (own_extent x)) _ c))
      (none_owned (suc k) xs (all_right _ (owned_checks (head_of s) k (own_extent x)) _ c) (omega arith))
    where
      go : (b : Bool) → Passed (owned_checks (head_of s) k (if b then Some x.extent else None)) → not b ≡ true
      go true c = absurd (let z = ltb-true k s.numbers.textures (not-false _ c.0) in omega arith)
      go false c = refl

  each_holds : SetFits P s → SetFits Q g → unless_refused (set_refusal (head_of s) (head_of g)) (each_owned f s.slots g.slots) ≡ true
  each_holds t u = unless_holds (set_refusal (head_of s) (head_of g)) λ e.
      each_owned_lem s g e (SlotFits P s.numbers s.flags) (SlotFits Q g.numbers s.flags)
      (λ k l xs. s.numbers.textures ≤ k + length l → each_owned f l xs ≡ true)
      (λ k xs c n. none_owned k xs c (omega arith)) (λ k l a n. refl)
      (λ k x l y ys a b c h ih n.
      both (by_test (λ (b : Bool). b ≡ true) y.owned (λ o. one x y a c o (h o)) (λ o. refl)) (ih (omega arith)))
      t.slots (rw (flags_same s g e) u.slots) (omega (arith, t.room))

module _ {H : Type 0} {H' : Type 0} (u : Extent → H → H') (Good : UsageFlags → Extent → H → Type 0) (from to : H
    → Given) (from' to' : H' → Named)
    (hands : (p : UsageFlags) (sh : Extent) (h : H) → Good p sh h → PairsW p sh (from h) (from' (u sh h)) (to h) (to' (u sh h))) where
  from_holds : (t : Tracker Held) (x : Set H) → WellTracker t → SetFits Good x → set_asserts from to t x ≡ true
  from_holds t x w y =
      each_holds FitEW Good t.set x (λ s x. tracker_asserts t.set.flags x.extent (from x.held) (to x.held) s)
      (λ s x f k o h. tracker_holds t.set.numbers t.set.flags x.extent _ _ _ _ s
      (hands t.set.flags x.extent x.held (k.held o)) f h) w y

-- ---- the listed ones
abbrev Listed : List ℕ → Tracker Held → Set Held → Type 0
Listed is t s = sparse_asserts is (t, s) ≡ true

take_holds : (i : ℕ) (is : List ℕ) (t : Tracker Held) (s : Set Held) → TakenW t s i
    → Listed is (tracker_after t s i) (scope_after t s i) → Listed (i ∷ is) t s
take_holds i is t s k ih =
    let x = slot_at (ranged.fresh 0) s i in let n = named_all (grid_of x.extent x.held) in
    rw (
      k.owned,
      tracker_holds t.set.numbers t.set.flags x.extent (from_held x.held) n (from_held x.held) n
          (slot_at (no_ends ranged) t.set i) k.pairs k.slot k.at,
    ) ih

listed_bounds : (t : Tracker Held) (s : Set Held) (is : List ℕ) → WellTracker t → WellScope s
    → Passed (each (sparse_checks (head_of t.set) (head_of s)) is) → every (listed_in_bounds t s) is ≡ true
listed_bounds t s [] r q c = refl
listed_bounds t s (i ∷ is) r q c =
    let here = all_left _ (sparse_checks (head_of t.set) (head_of s) i) _ c in
    both (both (lt-ltb i (length s.slots) (rw q.room (ltb-true i s.numbers.textures (not-false _ here.0))))
    (go (slot_at (ranged.fresh 0) s i).owned (rw (List_get_D_map own_extent s.slots i (empty_slot (ranged.fresh 0))) at here.1)))
    (listed_bounds t s is r q (all_right _ (sparse_checks (head_of t.set) (head_of s) i) _ c))
  where
    go : (b : Bool) → Passed (owned_checks (head_of t.set) i (if b then Some (slot_at (ranged.fresh 0) s i).extent else None))
        → (if b then in_bounds i t.set.slots else true) ≡ true
    go true c = lt-ltb i (length t.set.slots) (rw r.room (ltb-true i t.set.numbers.textures (not-false _ c.0)))
    go false c = refl

sparse_holds : (t : Tracker Held) (s : Set Held) (is : List ℕ) → WellTracker t → WellScope s
    → unless_refused (sparse_refusal (head_of t.set) (head_of s) is) (every (listed_in_bounds t s) is && sparse_asserts is (t, s)) ≡ true
sparse_holds t s is w y = unless_holds (sparse_refusal (head_of t.set) (head_of s) is) λ e.
    both (listed_bounds t s is w y (passed _ e).1)
    (each_listed ranged grid grid_of Word FitW FitEW PairsW entries_at grid_at trackers_well Listed (λ t s w y. refl) take_holds
    (λ i is t s e ih. rw e ih) t s is w y e)

-- ---- the six calls
there : {X : Type 0} (P : X → Type 0) (l : List X) (n : ℕ) (f : X → Bool) → All P l → ((x : X) → P x → f x ≡ true)
    → if_there (slice_get l n) f ≡ true
there P l n f t h = elem_of P l n (λ o. if_there o f ≡ true) t refl h

both_there : {X Y : Type 0} (P : X → Type 0) (Q : Y → Type 0) (l : List X) (m : List Y) (n j : ℕ) (f : X → Y → Bool) → All P l → All Q m
    → ((x : X) (y : Y) → P x → Q y → f x y ≡ true)
    → if_both (slice_get l n) (slice_get m j) f ≡ true
both_there P Q l m n j f t u h =
    elem_of P l n (λ o. if_both o (slice_get m j) f ≡ true) t refl
    (λ x p. elem_of Q m j (λ o. if_both (Some x) o f ≡ true) u refl (λ y q. h x y p q))

pub calls_assert : (c : Call) (k : Sets ranged) → GivenWord c → SetsFit k → call_asserts c k ≡ true
calls_assert (call_merge_single n i sh sel st) k word well = there WellScope k.scopes n _ (well_good k well).0
    (λ s q. merge_holds s i.0 sh sel st word q)
calls_assert (call_merge_usage_scope n m) k word well =
    let g = (well_good k well).0 in
    by_test (λ (b : Bool). b ≡ true) (eqb n m) (λ e. refl)
    (λ e. both_there WellScope WellScope k.scopes k.scopes n m _ g g
    (λ s g q r. each_holds FitW FitW s g (λ x y. scope_asserts s.flags y.extent (from_held y.held) x)
    (λ x y f k o h. scope_holds s.numbers s.flags y.extent _ _ x
    (scopes_well.passed_on s.flags y.extent y.held (k.held o)) f h) q r))
calls_assert (call_set_single n i sh sel st) k word well = there WellTracker k.trackers n _ (well_good k well).1
    (λ t q. set_holds t i.0 sh sel st word q)
calls_assert (call_set_from_usage_scope n m) k word well =
    let g = well_good k well in
    both_there WellTracker WellScope k.trackers k.scopes n m _ g.1 g.0
    (λ t s q r. from_holds grid_of FitW from_held from_held named_all named_all trackers_well.passed_on t s q r)
calls_assert (call_set_from_tracker n m) k word well =
    let g = (well_good k well).1 in
    by_test (λ (b : Bool). b ≡ true) (eqb n m) (λ e. refl)
    (λ e. both_there WellTracker WellTracker k.trackers k.trackers n m _ g g
    (λ t s q r. from_holds grid_ends FitEW (λ (e : Ends Held). from_held e.start) (λ (e : Ends Held). from_held e.end)
    (λ (e : Ends Grid). named_all e.start) (λ (e : Ends Grid). named_all e.end) trackers_well.joined t s.set q r))
calls_assert (call_set_and_remove_sparse n m is) k word well =
    let g = well_good k well in both_there WellTracker WellScope k.trackers k.scopes n m _ g.1 g.0
    (λ t s q r. sparse_holds t s is q r)
