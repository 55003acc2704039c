-- The entries that one call adds are no more than the subresources that it names, nor than those that its tracker owns, so a log with a
-- free entry for each never refuses it.
use Rattle.model.specs.Prelude.{ℕ, zero, suc, le_trans, zero-add, mul-le-mul, mul_assoc, suc-mul, ℕ_discrete, arith, refl, ◌∙◌, sym, ap}
use Rattle.model.specs.Prelude.{Bool, true, false, and-eq-true_iff, false≢true, true≢false, Option, None, Some, List, [], map, ltb, eqb}
use Rattle.model.specs.Prelude.{length, get_or, set, slice_get, length-append, length-map, le-leb, lt-ltb, ltb-true, eq-eqb, ne_eqb, le-ltb}
use Rattle.model.specs.declared.Refusal.TheVariants.{NoFreeEntry}
use Rattle.model.specs.declared.{Extent.Extent, InvalidUse.InvalidUse, Range.Range, Selector.Selector, UsageFlags.UsageFlags}
use Rattle.model.specs.{Base.{each_at₂, zip₂, All}, Representation.{select, full, in_mips, holds, Ends}, StateRules.{Move, move_of}}
use Rattle.model.specs.RangedStates.{iter_filter, Tiles}
use Rattle.model.specs.Texture.{Held, single, many, Given, given_single, given_many, Piece, Entry, entry, mip_entries, barrier, ranged}
use Rattle.model.specs.{Texture.{from_use, from_held}, ListLaws.{all_each, all_each_at, elem_of}, BoolLaws.{by_test, by_test₂}}
use Rattle.model.specs.{RangeLaws.tiles_le, Sets.{Numbers, Slot, Set, Tracker, head_of, empty_slot, slot_at, capacity}}
use Rattle.model.specs.Refusals.{single_refusal, set_refusal, sparse_refusal, check}
use Rattle.model.specs.Calls.{Indexed, CallResult, set_slot, log_slot, set_single, log_given, set_from, no_ends, sparse_all}
use Rattle.model.specs.Calls.{set_and_remove_sparse, Call, call_merge_single, call_merge_usage_scope, call_set_single}
use Rattle.model.specs.Calls.{call_set_from_usage_scope, call_set_from_tracker, call_set_and_remove_sparse, Sets, into, with₁, with₂}
use Rattle.model.specs.Calls.{with_scopes, with_trackers, merge_single, merge_usage_scope, step, Answer, done, refused, in_conflict}
use Rattle.model.specs.CheckLaws.{selector_within, single_passed}
use Rattle.model.specs.Log.{Log, pending_of, pending, head_check, unless_logged, refusal_of, added, logging}
use Rattle.std.specs.Prelude.{◌+◌, ◌*◌, ◌≤◌, ◌<◌, ◌≡◌, ◌&&◌, ◌∷◌, ◌++◌, if◌then◌else◌}
use Rattle.agreement.specs.Grid.{Named, Grid, named_transition, grid_barrier, named_use, named_all, grid, tab, named_row}
use Rattle.agreement.specs.{Shared.{entries_at, grid_of, grid_ends, to_list, grid_at}, WellFormedSets.{Word, GivenWord, well_formed}}
use Rattle.agreement.specs.LogBound.{sum_from, one_if, count_states, all_states, entries, slot_states, owned_states, listed, listed_states}
use Rattle.agreement.specs.LogBound.{of_scope, of_tracker, named_states, owned_of, tracker_capacity, capacity_of}
use Rattle.agreement.specs.Fits.{SlotFits, SetFits, SetsFit, EndsFit}
use Rattle.agreement.proofs.{TextureLaws.{Measured, Fit, Gives, gives_place, gives_set}, BarrierLaws.{lookup_place, or_none, at_most_one}}
use Rattle.agreement.proofs.{SlotLaws.{unless_by, slot_fits_lem, At, single_at, flags_same, each_owned_lem}, LiftTracker.each_listed}
use Rattle.agreement.proofs.WellLaws.{FitW, FitEW, PairsW, trackers_well, well_good, WellTracker, WellScope, TakenW, tracker_after}
use Rattle.agreement.proofs.{WellLaws.scope_after, CallsAgree.sets_to, OwnRefusals.own_refusals}

-- ---- sums
sum_add : (f g : ℕ → ℕ) (k n : ℕ) → sum_from (λ i. f i + g i) k n ≡ sum_from f k n + sum_from g k n
sum_add f g k zero = refl
sum_add f g k (suc n) = let h = sum_add f g (suc k) n in omega arith

sum_le : (f g : ℕ → ℕ) (k n : ℕ) → ((i : ℕ) → k ≤ i → i < k + n → f i ≤ g i) → sum_from f k n ≤ sum_from g k n
sum_le f g k zero h = omega arith
sum_le f g k (suc n) h = let a = h k (omega arith) (omega arith) in
    let b = sum_le f g (suc k) n (λ i x y. h i (omega arith) (omega arith)) in omega arith

sum_eq : (f g : ℕ → ℕ) (k n : ℕ) → ((i : ℕ) → f i ≡ g i) → sum_from f k n ≡ sum_from g k n
sum_eq f g k zero h = refl
sum_eq f g k (suc n) h = rw (h k, sum_eq f g (suc k) n h)

sum_has : (f : ℕ → ℕ) (k n i : ℕ) → k ≤ i → i < k + n → f i ≤ sum_from f k n
sum_has f k zero i h g = absurd (omega arith)
sum_has f k (suc n) i h g = go (λ x y. sum_has f (suc k) n i x y) (ℕ_discrete i k)
  where
    go : (suc k ≤ i → i < suc k + n → f i ≤ sum_from f (suc k) n) → Dec (i ≡ k) → f i ≤ f k + sum_from f (suc k) n
    go ih (yes e) = rw e (omega arith)
    go ih (no e) = let z = ih (omega arith) (omega arith) in omega arith

-- over the subresources of an extent
abbrev state_sum : Extent → (ℕ → ℕ → ℕ) → ℕ
state_sum sh f = sum_from (λ m. sum_from (f m) 0 sh.layers) 0 sh.mips

state_add : (sh : Extent) (f g : ℕ → ℕ → ℕ) → state_sum sh (λ m l. f m l + g m l) ≡ state_sum sh f + state_sum sh g
state_add sh f g =
    sum_eq (λ m. sum_from (λ l. f m l + g m l) 0 sh.layers) (λ m. sum_from (f m) 0 sh.layers + sum_from (g m) 0 sh.layers) 0
    sh.mips (λ m. sum_add (f m) (g m) 0 sh.layers)
    ∙ sum_add (λ m. sum_from (f m) 0 sh.layers) (λ m. sum_from (g m) 0 sh.layers) 0 sh.mips

state_eq : (sh : Extent) (f g : ℕ → ℕ → ℕ) → ((m l : ℕ) → f m l ≡ g m l) → state_sum sh f ≡ state_sum sh g
state_eq sh f g h = sum_eq (λ m. sum_from (f m) 0 sh.layers) (λ m. sum_from (g m) 0 sh.layers) 0 sh.mips
    (λ m. sum_eq (f m) (g m) 0 sh.layers (h m))

state_le : (sh : Extent) (f g : ℕ → ℕ → ℕ) → ((m l : ℕ) → f m l ≤ g m l) → state_sum sh f ≤ state_sum sh g
state_le sh f g h =
    sum_le (λ m. sum_from (f m) 0 sh.layers) (λ m. sum_from (g m) 0 sh.layers) 0 sh.mips
    (λ m x y. sum_le (f m) (g m) 0 sh.layers (λ l z w. h m l))

state_has : (sh : Extent) (f : ℕ → ℕ → ℕ) (m l : ℕ) → m < sh.mips → l < sh.layers → f m l ≤ state_sum sh f
state_has sh f m l a b =
    let x = sum_has (f m) 0 sh.layers l (omega arith) (omega arith) in
    let y = sum_has (λ m. sum_from (f m) 0 sh.layers) 0 sh.mips m (omega arith) (omega arith) in omega arith

-- ---- entries that hold a subresource of the extent
abbrev pub In : Extent → Selector → Type 0
In sh q = (q.mips.start.0 < q.mips.end.0) × (q.mips.end.0 ≤ sh.mips) × (q.layers.start.0 < q.layers.end.0)
    × (q.layers.end.0 ≤ sh.layers)

abbrev EntryIn : Extent → Entry → Type 0
EntryIn sh e = In sh e.selector

one_entry : (b : Bool) (v : Move) (s : List Move) → length ((if b then v ∷ [] else []) ++ s) ≡ one_if b + length s
one_entry true v s = omega arith
one_entry false v s = omega arith

entries_few : (sh : Extent) (es : List Entry) → All (EntryIn sh) es → length es ≤ state_sum sh (λ m l. length (entries_at m l es))
entries_few sh [] t = omega arith
entries_few sh (e ∷ es) t =
    let ih = entries_few sh es t.1 in
    let a = state_eq sh (λ m l. length (entries_at m l (e ∷ es))) (λ m l. one_if (holds e.selector m l) + length (entries_at m l es))
    (λ m l. one_entry (holds e.selector m l) e.move (entries_at m l es)) in
    let b = state_add sh (λ m l. one_if (holds e.selector m l)) (λ m l. length (entries_at m l es)) in
    let first : one_if (holds e.selector e.selector.mips.start.0 e.selector.layers.start.0) ≡ 1 =
    rw (
      le-leb e.selector.mips.start.0 e.selector.mips.start.0 (omega arith),
      lt-ltb e.selector.mips.start.0
          e.selector.mips.end.0 t.0.0,
      le-leb e.selector.layers.start.0 e.selector.layers.start.0 (omega arith),
      lt-ltb e.selector.layers.start.0 e.selector.layers.end.0 t.0.2,
    ) in
    let c = state_has sh (λ m l. one_if (holds e.selector m l)) e.selector.mips.start.0 e.selector.layers.start.0
    (omega arith) (omega arith) in
    omega arith

-- ---- the entries of one texture lie in its extent

abbrev RangeIn : ℕ → Range → Type 0
RangeIn w r = (r.start < r.end) × (r.end ≤ w)

tiles_in : (s : List Range) (a w : ℕ) → Tiles a s w → All (RangeIn w) s
tiles_in [] a w t = tt
tiles_in (r ∷ s) a w t = ((omega arith, tiles_le s r.end w t.2), tiles_in s r.end w t.2)

filter_in_lem : (a e w : ℕ) (s : List Range) → a < e → All (RangeIn w) s → All (RangeIn w) (iter_filter a e s)
unfolding iter_filter
filter_in_lem a e w [] h t = tt
filter_in_lem a e w (r ∷ s) h t =
    let ih = filter_in_lem a e w s h t.1 in
    by_test (All (RangeIn w)) (ltb a r.end && ltb r.start e)
    (λ b. let c = (and-eq-true_iff (ltb a r.end) (ltb r.start e)).0 b in let x = ltb-true a r.end c.0 in
    let y = ltb-true r.start e c.1 in
    ((omega arith, omega arith), ih))
    (λ b. ih)

entry_in : (sh : Extent) (q : Selector) (o : Option Move) → In sh q → All (EntryIn sh) (entry q o)
entry_in sh q None h = tt
entry_in sh q (Some m) h = (h, tt)

ranges_in : (sh : Extent) (f : ℕ → Option Move) (k : ℕ) (s : List Range) → k < sh.mips → All (RangeIn sh.layers) s
    → All (EntryIn sh) (mip_entries f k s)
ranges_in sh f k s h t =
    all_each (RangeIn sh.layers) (EntryIn sh) (λ (r : Range). entry (select k (suc k) r.start r.end) (f r.state))
    (λ r q. entry_in sh (select k (suc k) r.start r.end) (f r.state) (omega arith, h, q.0, q.1)) s t

abbrev pub PieceIn : Extent → Piece → Type 0
PieceIn sh q = In sh q.selector

pub pieces_in : (sh : Extent) (qs : List Piece) (n : Named) → Gives sh (given_many qs) n → All (PieceIn sh) qs
pieces_in sh qs n (gives_place {q} a b c d) = ((c, d, a, b), tt)
pieces_in sh qs n (gives_set ss h t) =
    all_each_at (λ (s : List Range). Tiles 0 s sh.layers) (PieceIn sh) sh.mips _
    (λ k s e u. row k s e (tiles_in s 0 sh.layers u)) 0 ss (omega arith) t
  where
    row : (k : ℕ) (s : List Range) → k < sh.mips → All (RangeIn sh.layers) s
        → All (PieceIn sh) (map (λ (r : Range). record { selector = select k (suc k) r.start r.end; state = r.state }) s)
    row k [] e t = tt
    row k (r ∷ s) e t = ((omega arith, e, t.0.0, t.0.1), row k s e t.1)

barrier_in : (p : UsageFlags) (mask : ℕ) (sh : Extent) (h : Held) (g : Given) (n : Named) → Measured sh → Fit sh h → Gives sh g n
    → All (EntryIn sh) (barrier p mask sh h g)
unfolding barrier
barrier_in p mask sh (single cur) (given_single new) n e f g = entry_in sh (full sh) (move_of p.unknown mask cur new)
    (e.0, omega arith, e.1, omega arith)
barrier_in p mask sh (single cur) (given_many qs) n e f g =
    all_each (PieceIn sh) (EntryIn sh) (λ (q : Piece). entry q.selector (move_of p.unknown mask cur q.state))
    (λ q h. entry_in sh q.selector (move_of p.unknown mask cur q.state) h) qs (pieces_in sh qs n g)
barrier_in p mask sh (many ss) (given_single new) n e f g =
    all_each_at (λ (s : List Range). Tiles 0 s sh.layers) (EntryIn sh) sh.mips (mip_entries (λ cur. move_of p.unknown mask cur new))
    (λ k s h u. ranges_in sh (λ cur. move_of p.unknown mask cur new) k s h (tiles_in s 0 sh.layers u)) 0 ss (omega arith) f.2
barrier_in p mask sh (many ss) (given_many qs) n e f g =
    all_each (PieceIn sh) (EntryIn sh) _
    (λ q i. all_each_at (λ (s : List Range). Tiles 0 s sh.layers) (EntryIn sh) sh.mips _
    (λ k s h u. by_test (All (EntryIn sh)) (in_mips q.selector k)
    (λ b. ranges_in sh (λ cur. move_of p.unknown mask cur q.state) k
    (iter_filter q.selector.layers.start.0 q.selector.layers.end.0 s) h
    (filter_in_lem q.selector.layers.start.0 q.selector.layers.end.0 sh.layers s i.2 (tiles_in s 0 sh.layers u)))
    (λ b. tt)) 0 ss (omega arith) f.2) qs (pieces_in sh qs n g)

-- ---- a subresource that is not named has no transition
abbrev pub is_named : Option ℕ → Bool
is_named None = false
is_named (Some c) = true

texture_few : (p : UsageFlags) (mask : ℕ) (sh : Extent) (h : Held) (g : Given) (n : Named) → Measured sh → Fit sh h → Gives sh g n
    → ((m l : ℕ) → length (entries_at m l (barrier p mask sh h g)) ≤ one_if (is_named (get_or (get_or n.states m []) l None)))
    → length (barrier p mask sh h g) ≤ count_states sh (λ m l. is_named (get_or (get_or n.states m []) l None))
texture_few p mask sh h g n e f r few =
    let a = entries_few sh (barrier p mask sh h g) (barrier_in p mask sh h g n e f r) in
    let b = state_le sh (λ m l. length (entries_at m l (barrier p mask sh h g)))
    (λ m l. one_if (is_named (get_or (get_or n.states m []) l None))) few in
    omega arith

-- no test passes at more subresources than there are
row_most : (test : ℕ → Bool) (k n : ℕ) → sum_from (λ l. one_if (test l)) k n ≤ n
row_most test k zero = omega arith
row_most test k (suc n) =
    let h = row_most test (suc k) n in by_test (λ (x : ℕ). x + sum_from (λ l. one_if (test l)) (suc k) n ≤ suc n) (test k)
    (λ b. omega arith) (λ b. omega arith)

grid_most : (test : ℕ → ℕ → Bool) (w k n : ℕ) → sum_from (λ m. sum_from (λ l. one_if (test m l)) 0 w) k n ≤ n * w
grid_most test w k zero = omega arith
grid_most test w k (suc n) = let h = grid_most test w (suc k) n in let g = row_most (test k) 0 w in omega arith

states_most : (sh : Extent) (test : ℕ → ℕ → Bool) → count_states sh test ≤ sh.mips * sh.layers
states_most sh test = grid_most test sh.layers 0 sh.mips

-- ---- nor has the grid one there
row_few : (p : UsageFlags) (mask : ℕ) (r : List ℕ) (q : List (Option ℕ)) (l : ℕ)
    → length (to_list (get_or (zip₂ (named_transition p mask) r q) l None)) ≤ one_if (is_named (get_or q l None))
row_few p mask [] q l = omega arith
row_few p mask (c ∷ r) [] l = omega arith
row_few p mask (c ∷ r) (None ∷ q) zero = omega arith
row_few p mask (c ∷ r) (Some x ∷ q) zero = at_most_one (named_transition p mask c (Some x))
row_few p mask (c ∷ r) (o ∷ q) (suc l) = row_few p mask r q l

grid_few : (p : UsageFlags) (mask : ℕ) (g : List (List ℕ)) (n : List (List (Option ℕ))) (m l : ℕ)
    → length (grid_at m l (zip₂ (zip₂ (named_transition p mask)) g n)) ≤ one_if (is_named (get_or (get_or n m []) l None))
grid_few p mask [] n m l = omega arith
grid_few p mask (r ∷ g) [] m l = omega arith
grid_few p mask (r ∷ g) (q ∷ n) zero l = row_few p mask r q l
grid_few p mask (r ∷ g) (q ∷ n) (suc m) l = grid_few p mask g n m l

grids_few : (p : UsageFlags) (mask : ℕ) (sh : Extent) (s : Grid) (n : Named) (m l : ℕ)
    → length (grid_at m l (grid_barrier p mask sh s n)) ≤ one_if (is_named (get_or (get_or n.states m []) l None))
unfolding grid_barrier
grids_few p mask sh s n m l = grid_few p mask s.states n.states m l

abbrev pub named_at : Named → ℕ → ℕ → Bool
named_at n m l = is_named (get_or (get_or n.states m []) l None)

-- ---- one index
module _ (n : Numbers) (p : UsageFlags) (mask : ℕ) (sh : Extent) (a : Given) (b : Named) (c : Given) (d : Named)
    (i : ℕ) (s : Slot (Ends Held))
    (r : PairsW p sh a b c d) (t : SlotFits FitEW n p s) (h : At n s sh) where
  slot_few : entries (log_slot ranged p mask sh a i s) ≤ count_states sh (named_at b)
  slot_few = by_test (λ (x : List (Indexed (List Entry))). entries x ≤ count_states sh (named_at b)) s.owned
      (λ e. let f : FitEW p sh s.held = rw (h.own e) at (t.held e) in
      let few = texture_few p mask sh s.held.end a b f.base.measured f.base.end r.base.from.gives
      (λ m l. rw (trackers_well.logged p mask sh s.held a b c d r f m l).0 (grids_few p mask sh (grid_of sh s.held.end) b m l)) in
      omega arith)
      (λ e. omega arith)

  -- as many as the given extent has, and as the texture has that is owned
  slot_most : (entries (log_slot ranged p mask sh a i s) ≤ all_states sh) × (entries (log_slot ranged p mask sh a i s) ≤ slot_states s)
  slot_most =
      let x = slot_few in let y = states_most sh (named_at b) in
      let most : entries (log_slot ranged p mask sh a i s) ≤ all_states sh = omega arith in (
        most,
        by_test₂ (λ (x : List (Indexed (List Entry))) (n : ℕ). entries x ≤ n) s.owned
            (λ e. rw (h.own e) (rw e at most)) (λ e. omega arith),
      )

entries_append : (x y : List (Indexed (List Entry))) → entries (x ++ y) ≡ entries x + entries y
entries_append [] y = omega arith
entries_append (e ∷ x) y = let h = entries_append x y in omega arith

-- ---- a single use
pub use_named : (sh : Extent) (q : Selector) (st m l : ℕ) → q.layers.start.0 < q.layers.end.0 → q.mips.end.0 ≤ sh.mips
    → one_if (named_at (named_use sh (Some q) st) m l) ≡ one_if (holds q m l)
use_named sh q st m l h g = sym (sym (left (holds q m l)) ∙ ap length (lookup_place sh (λ st. v ∷ []) m l q st h g)
    ∙ right (get_or (get_or (tab (named_row sh q st) 0 sh.mips) m []) l None))
  where
    v : Move
    v = record { old = 0; new = 0 }

    left : (b : Bool) → length ((if b then v ∷ [] else []) ++ []) ≡ one_if b
    left true = refl
    left false = refl

    right : (o : Option ℕ) → length (or_none (λ st. v ∷ []) o) ≡ one_if (is_named o)
    right None = refl
    right (Some x) = refl

-- one slot of many
slot_in : {H : Type 0} (h : H) (l : List (Slot H)) (i : ℕ) → slot_states (get_or l i (empty_slot h)) ≤ owned_states l
slot_in h [] i = omega arith
slot_in h (s ∷ l) zero = omega arith
slot_in h (s ∷ l) (suc i) = let ih = slot_in h l i in omega arith

-- the entries of a call are within two bounds
abbrev Within : {X : Type 0} → ℕ → ℕ → CallResult InvalidUse (List Entry) X → Type 0
Within a b o = (entries o.log ≤ a) × (entries o.log ≤ b)

single_few : (t : Tracker Held) (i : ℕ) (sh : Extent) (sel : Selector) (st : ℕ) → Word st → WellTracker t
    → Within (count_states sh (holds sel)) (owned_states t.set.slots) (set_single ranged t i sh sel st)
single_few t i sh sel st word w =
    unless_by (Within (count_states sh (holds sel)) (owned_states t.set.slots)) (single_refusal (head_of t.set) i sh (Some sel) st)
    (λ r. (omega arith, omega arith)) λ e.
    let q = selector_within sh sel (single_passed (head_of t.set) i sh (Some sel) st e).selector in let a = from_use sh (Some sel) st in
    let b = named_use sh (Some sel) st in let slot =
    slot_at (no_ends ranged) t.set i in
    let r = trackers_well.used (head_of t.set) i sh (Some sel) st w.flags word e in
    let x = slot_fits_lem FitEW t.set (no_ends ranged) i w in let y = single_at t.set (no_ends ranged) i sh (Some sel) st e in
    let few = slot_few t.set.numbers t.set.flags t.mask sh a b a b i slot r x y in
    let same = state_eq sh (λ m l. one_if (named_at b m l)) (λ m l. one_if (holds sel m l))
    (λ m l. use_named sh sel st m l q.span q.in_mips) in (
      omega arith,
      le_trans (slot_most t.set.numbers t.set.flags t.mask sh a b a b i slot r x y).1
          (slot_in (no_ends ranged) t.set.slots i),
    )

-- ---- every index of a given set
module _ {H : Type 0} {H' : Type 0} (u : Extent → H → H') (Good : UsageFlags → Extent → H → Type 0) (from to : H
    → Given) (from' to' : H' → Named)
    (hands : (p : UsageFlags) (sh : Extent) (h : H) → Good p sh h → PairsW p sh (from h) (from' (u sh h)) (to h) (to' (u sh h))) where
  from_few : (t : Tracker Held) (x : Set H) → WellTracker t → SetFits Good x
      → Within (owned_states x.slots) (owned_states t.set.slots) (set_from ranged from to t x)
  from_few t x w y =
      unless_by (Within (owned_states x.slots) (owned_states t.set.slots)) (set_refusal (head_of t.set) (head_of x))
      (λ r. (omega arith, omega arith)) λ e.
      each_owned_lem t.set x e (SlotFits FitEW t.set.numbers p) (SlotFits Good x.numbers p) F (λ k xs c. (omega arith, omega arith))
      rest next w.slots (rw (flags_same t.set x e) y.slots)
    where
      p : UsageFlags
      p = t.set.flags

      F : ℕ → List (Slot (Ends Held)) → List (Slot H) → Type 0
      F k l xs = let n = entries (each_at₂ (log_given ranged from to p t.mask) k l xs) in (n ≤ owned_states xs) × (n ≤ owned_states l)

      rest : (k : ℕ) (l : List (Slot (Ends Held))) → All (SlotFits FitEW t.set.numbers p) l → F k l []
      rest k [] a = (omega arith, omega arith)
      rest k (s ∷ l) a = (omega arith, omega arith)

      next : (k : ℕ) (s : Slot (Ends Held)) (l : List (Slot (Ends Held))) (y : Slot H) (ys : List (Slot H))
          → SlotFits FitEW t.set.numbers p s → All (SlotFits FitEW t.set.numbers p) l
          → SlotFits Good x.numbers p y → (y.owned ≡ true → At t.set.numbers s y.extent) → F (suc k) l ys → F k (s ∷ l) (y ∷ ys)
      next k s l y ys a b c h ih =
          let m = by_test₂ (λ (z : List (Indexed (List Entry))) (n : ℕ). (entries z ≤ n) × (entries z ≤ slot_states s)) y.owned
          {x = log_slot ranged p t.mask y.extent (from y.held) k s} {y = []} {z = all_states y.extent} {w = 0}
          (λ e. slot_most t.set.numbers p t.mask y.extent _ _ _ _ k s (hands p y.extent y.held (c.held e)) a (h e))
          (λ e. (omega arith, omega arith)) in
          let sum = entries_append (log_given ranged from to p t.mask k s y)
          (each_at₂ (log_given ranged from to p t.mask) (suc k) l ys) in
          (omega arith, omega arith)

-- ---- the sparse call: an index that it has set is counted once, as the scope owns it no more
abbrev both_states : {G H : Type 0} → List (Slot G) → List (Slot H) → ℕ
both_states [] xs = 0
both_states (s ∷ l) [] = 0
both_states (s ∷ l) (x ∷ xs) = (if x.owned then slot_states s else 0) + both_states l xs

both_owned : {G H : Type 0} (l : List (Slot G)) (xs : List (Slot H)) → both_states l xs ≤ owned_states l
both_owned [] xs = omega arith
both_owned (s ∷ l) [] = omega arith
both_owned (s ∷ l) (x ∷ xs) = let ih = both_owned l xs in go ih x.owned
  where
    go : both_states l xs ≤ owned_states l → (b : Bool)
        → (if b then slot_states s else 0) + both_states l xs ≤ slot_states s + owned_states l
    go ih true = omega arith
    go ih false = omega arith

none_if : (b : Bool) → ◌≡◌ {A = ℕ} (if b then 0 else 0) 0
none_if true = refl
none_if false = refl

-- an index that lies behind counts no more
listed_past : {H : Type 0} (i : ℕ) (is : List ℕ) (k : ℕ) (l : List (Slot H)) → i < k → listed_states (i ∷ is) k l ≡ listed_states is k l
listed_past i is k [] h = refl
listed_past i is k (s ∷ l) h = let ih = listed_past i is (suc k) l (omega arith) in rw (ne_eqb i k (λ e. omega arith), ih)

listed_drop : {H : Type 0} (h : H) (x : Slot H) → x.owned ≡ false → (is : List ℕ) (j k : ℕ) (l : List (Slot H))
    → slot_states (get_or l j (empty_slot h)) + listed_states is k (set l j x) ≡ listed_states ((k + j) ∷ is) k l
listed_drop h x o is j k [] = omega arith
listed_drop h x o is zero k (s ∷ l) =
    rw (o, none_if (listed k is), eq-eqb (k + 0) k (omega arith), listed_past (k + 0) is (suc k) l (omega arith)) (omega arith)
listed_drop h x o is (suc j) k (s ∷ l) =
    let ih = listed_drop h x o is j (suc k) l in let q : suc k + j ≡ k + suc j = omega arith in let ih' = rw q at ih in
    rw (ne_eqb (k + suc j) k (λ e. omega arith)) (omega arith)

listed_more : {H : Type 0} (i : ℕ) (is : List ℕ) (k : ℕ) (l : List (Slot H)) → listed_states is k l ≤ listed_states (i ∷ is) k l
listed_more i is k [] = omega arith
listed_more i is k (s ∷ l) = let ih = listed_more i is (suc k) l in go ih (eqb i k) (listed k is)
  where
    go : listed_states is (suc k) l ≤ listed_states (i ∷ is) (suc k) l → (a b : Bool)
        → (if b then slot_states s else 0) + listed_states is (suc k) l ≤ (if (if a then true else b) then slot_states s
        else 0) + listed_states (i ∷ is) (suc k) l
    go ih true true = omega arith
    go ih true false = omega arith
    go ih false true = omega arith
    go ih false false = omega arith

both_drop : {G H : Type 0} (g : G) (h : H) (y : Slot G) (x : Slot H) → x.owned ≡ false → (j : ℕ) (l : List (Slot G)) (xs : List (Slot H))
    → (get_or xs j (empty_slot h)).owned ≡ true
    → slot_states (get_or l j (empty_slot g)) + both_states (set l j y) (set xs j x) ≤ both_states l xs
both_drop g h y x o j [] xs e = omega arith
both_drop g h y x o j (s ∷ l) [] e = absurd (false≢true e)
both_drop g h y x o zero (s ∷ l) (z ∷ xs) e = rw (o, e) (omega arith)
both_drop g h y x o (suc j) (s ∷ l) (z ∷ xs) e = let ih = both_drop g h y x o j l xs e in omega arith

abbrev Listed : List ℕ → Tracker Held → Set Held → Type 0
Listed is t s = Within (listed_states is 0 s.slots) (both_states t.set.slots s.slots) (sparse_all ranged is (t, s))

take_few : (i : ℕ) (is : List ℕ) (t : Tracker Held) (s : Set Held) → TakenW t s i
    → Listed is (tracker_after t s i) (scope_after t s i) → Listed (i ∷ is) t s
take_few i is t s k ih =
    let x = slot_at (ranged.fresh 0) s i in let y = slot_at (no_ends ranged) t.set i in let p = t.set.flags in let o : Slot Held =
    record { owned = false; extent = x.extent; held = x.held } in
    let one = slot_most t.set.numbers p t.mask x.extent (from_held x.held) (named_all (grid_of x.extent x.held))
    (from_held x.held) (named_all (grid_of x.extent x.held)) i y k.pairs k.slot k.at in
    let sum = entries_append (log_slot ranged p t.mask x.extent (from_held x.held) i y)
    (sparse_all ranged is (tracker_after t s i, scope_after t s i)).log in
    let named = rw zero-add at (listed_drop (ranged.fresh 0) o refl is i 0 s.slots) in
    let owned = both_drop (no_ends ranged) (ranged.fresh 0) (set_slot ranged p x.extent (from_held x.held) (from_held x.held) y) o
    refl i t.set.slots s.slots k.owned in
    let here : slot_states x ≡ all_states x.extent = rw k.owned in
    rw k.owned (omega arith, omega arith)

skip_few : (i : ℕ) (is : List ℕ) (t : Tracker Held) (s : Set Held) → (slot_at (ranged.fresh 0) s i).owned ≡ false
    → Listed is t s → Listed (i ∷ is) t s
skip_few i is t s e ih = let more = listed_more i is 0 s.slots in rw e (omega arith, ih.1)

sparse_few : (t : Tracker Held) (s : Set Held) (is : List ℕ) → WellTracker t → WellScope s
    → Within (listed_states is 0 s.slots) (owned_states t.set.slots) (set_and_remove_sparse ranged t s is)
sparse_few t s is w y =
    unless_by (Within (listed_states is 0 s.slots) (owned_states t.set.slots)) (sparse_refusal (head_of t.set) (head_of s) is)
    (λ r. (omega arith, omega arith)) λ e.
    let m = each_listed ranged grid grid_of Word FitW FitEW PairsW entries_at grid_at trackers_well Listed
    (λ t s w y. (omega arith, omega arith)) take_few skip_few t s is w y e in
    (m.0, le_trans m.1 (both_owned t.set.slots s.slots))

-- ---- the six calls
with_two : {Y : Type 0} (P : Y → Type 0) (a : Option Y → ℕ) (k : Sets ranged) (n m : ℕ) (l : List Y) (f : Tracker Held → Y
    → CallResult InvalidUse (List Entry) (Sets ranged))
    → All WellTracker k.trackers → All P l
    → ((t : Tracker Held) (y : Y) → WellTracker t → P y → Within (a (Some y)) (owned_states t.set.slots) (f t y))
    → Within (a (slice_get l m)) (of_tracker (slice_get k.trackers n)) (with₂ ranged k (slice_get k.trackers n) (slice_get l m) f)
with_two P a k n m l f t u h =
    elem_of WellTracker k.trackers n (λ o. Within (a (slice_get l m)) (of_tracker o) (with₂ ranged k o (slice_get l m) f)) t
    (omega arith, omega arith)
    (λ x q. elem_of P l m (λ o. Within (a o) (owned_states x.set.slots) (with₂ ranged k (Some x) o f)) u
    (omega arith, omega arith) (λ y r. h x y q r))

pub few_entries : (c : Call) (k : Sets ranged) → GivenWord c → SetsFit k
    → (entries (step ranged c k).log ≤ named_states c k) × (entries (step ranged c k).log ≤ owned_of c k)
unfolding step
few_entries (call_merge_single n i sh sel st) k word well =
    elem_of WellScope k.scopes n
    (λ o. Within 0 0 (with₁ ranged k o (λ s. into ranged (merge_single ranged s i.0 sh sel st)
    (λ x. with_scopes ranged k (set k.scopes n x))))) (well_good k well).0 (omega arith, omega arith)
    (λ s q. unless_by (Within 0 0) (single_refusal (head_of s) i.0 sh sel st) (λ r. (omega arith, omega arith))
    (λ e. (omega arith, omega arith)))
few_entries (call_merge_usage_scope n m) k word well =
    let g = (well_good k well).0 in let f : Set Held → Set Held → CallResult InvalidUse (List Entry) (Sets ranged) =
    λ s x. into ranged (merge_usage_scope ranged s x) (λ x. with_scopes ranged k (set k.scopes n x)) in
    by_test (Within 0 0) (eqb n m) (λ e. (omega arith, omega arith))
    (λ e. elem_of WellScope k.scopes n (λ o. Within 0 0 (with₂ ranged k o (slice_get k.scopes m) f)) g (omega arith, omega arith)
    (λ s q. elem_of WellScope k.scopes m (λ o. Within 0 0 (with₂ ranged k (Some s) o f)) g (omega arith, omega arith)
    (λ x r. unless_by (Within 0 0) (set_refusal (head_of s) (head_of x)) (λ r. (omega arith, omega arith))
    (λ e. (omega arith, omega arith)))))
few_entries (call_set_single n i sh sel st) k word well =
    elem_of WellTracker k.trackers n (λ o. Within (count_states sh (holds sel)) (of_tracker o)
    (with₁ ranged k o (λ t. into ranged (set_single ranged t i.0 sh sel st) (λ x. with_trackers ranged k (set k.trackers n x)))))
    (well_good k well).1
    (omega arith, omega arith) (λ t q. single_few t i.0 sh sel st word q)
few_entries (call_set_from_usage_scope n m) k word well =
    let g = well_good k well in
    with_two WellScope (of_scope (λ s. owned_states s.slots)) k n m k.scopes _ g.1 g.0
    (λ t s q r. from_few grid_of FitW from_held from_held named_all named_all trackers_well.passed_on t s q r)
few_entries (call_set_from_tracker n m) k word well =
    let g = well_good k well in
    by_test (Within (of_tracker (slice_get k.trackers m)) (of_tracker (slice_get k.trackers n))) (eqb n m)
    (λ e. (omega arith, omega arith))
    (λ e. with_two WellTracker of_tracker k n m k.trackers _ g.1 g.1
    (λ t s q r. from_few grid_ends FitEW (λ (e : Ends Held). from_held e.start) (λ (e : Ends Held). from_held e.end)
    (λ (e : Ends Grid). named_all e.start) (λ (e : Ends Grid). named_all e.end) trackers_well.joined t s.set q r))
few_entries (call_set_and_remove_sparse n m is) k word well =
    let g = well_good k well in
    with_two WellScope (of_scope (λ s. listed_states is 0 s.slots)) k n m k.scopes _ g.1 g.0 (λ t s q r. sparse_few t s is q r)

-- ---- as many entries are written as are counted
pub entries_written : (log : List (Indexed (List Entry))) → length (pending log) ≡ entries log
entries_written [] = refl
entries_written (x ∷ log) = length-append (pending_of x) (pending log) ∙ rw (entries_written log, length-map x.what)

-- ---- with room, the answer is the call's own
answers : {X : Type 0} (log : Log) (was : X) (r : CallResult InvalidUse (List Entry) X) → (head_check log).fails ≡ false
    → entries r.log ≤ log.head.free → (logging true log was r).answer ≡ r.answer
unfolding logging
answers {X} log was r e h = rw (e, le-ltb log.head.free (length (pending r.log)) (rw (entries_written r.log) h)) (go r.answer)
  where
    go : (a : Answer InvalidUse)
        → (unless_logged (refusal_of a (check false NoFreeEntry ∷ [])) log was (record
        { answer = a; log = added (pending r.log) log; after = r.after })).answer ≡ a
    go done = refl
    go (refused x) = refl
    go (in_conflict c) = refl

pub never_full : (c : Call) (k : Sets ranged) → GivenWord c → well_formed k ≡ true → (log : Log) → (head_check log).fails ≡ false
    → named_states c k ≤ log.head.free
    → (logging (well_formed k) log k (step ranged c k)).answer ≡ (step ranged c k).answer
never_full c k w e log h room = rw e (answers log k (step ranged c k) h (le_trans (few_entries c k w (sets_to k e)).0 room))

-- ---- the subresources that a tracker owns are no more than it has, N × M × W
slot_bound : {H : Type 0} (P : UsageFlags → Extent → H → Type 0) (n : Numbers) (p : UsageFlags) (s : Slot H) → SlotFits P n p s
    → slot_states s ≤ n.mips * n.layers
slot_bound P n p s f = by_test (λ (x : ℕ). x ≤ n.mips * n.layers) s.owned
    (λ e. mul-le-mul (f.extent e).mips (f.extent e).layers) (λ e. omega arith)

slots_bound : {H : Type 0} (P : UsageFlags → Extent → H → Type 0) (n : Numbers) (p : UsageFlags) (l : List (Slot H))
    → All (SlotFits P n p) l → owned_states l ≤ length l * (n.mips * n.layers)
slots_bound P n p [] t = omega arith
slots_bound P n p (s ∷ l) t = let a = slot_bound P n p s t.0 in let b = slots_bound P n p l t.1 in rw suc-mul (omega arith)

tracker_most : (t : Tracker Held) → SetFits EndsFit t.set → owned_states t.set.slots ≤ capacity t.set.numbers
tracker_most t f = rw (mul_assoc, ← f.room) (slots_bound EndsFit t.set.numbers t.set.flags t.set.slots f.slots)

pub owned_most : (c : Call) (k : Sets ranged) → well_formed k ≡ true → owned_of c k ≤ capacity_of c k
owned_most c k e = go c
  where
    at : (n : ℕ) → of_tracker (slice_get k.trackers n) ≤ tracker_capacity (slice_get k.trackers n)
    at n = elem_of (λ (t : Tracker Held). SetFits EndsFit t.set) k.trackers n (λ o. of_tracker o ≤ tracker_capacity o)
        (sets_to k e).trackers (omega arith) tracker_most

    go : (c : Call) → owned_of c k ≤ capacity_of c k
    go (call_merge_single n i sh sel st) = omega arith
    go (call_merge_usage_scope n m) = omega arith
    go (call_set_single n i sh sel st) = at n
    go (call_set_from_usage_scope n m) = at n
    go (call_set_from_tracker n m) = at n
    go (call_set_and_remove_sparse n m is) = at n

pub owned_few : (c : Call) (k : Sets ranged) → GivenWord c → well_formed k ≡ true → entries (step ranged c k).log ≤ owned_of c k
owned_few c k w e = (few_entries c k w (sets_to k e)).1

pub capacity_few : (c : Call) (k : Sets ranged) → GivenWord c → well_formed k ≡ true → entries (step ranged c k).log ≤ capacity_of c k
capacity_few c k w e = le_trans (owned_few c k w e) (owned_most c k e)

pub never_full_owned : (c : Call) (k : Sets ranged) → GivenWord c → well_formed k ≡ true → (log : Log) → (head_check log).fails ≡ false
    → owned_of c k ≤ log.head.free
    → (logging (well_formed k) log k (step ranged c k)).answer ≡ (step ranged c k).answer
never_full_owned c k w e log h room = rw e (answers log k (step ranged c k) h (le_trans (owned_few c k w e) room))

pub never_full_capacity : (c : Call) (k : Sets ranged) → GivenWord c → well_formed k ≡ true → (log : Log) → (head_check log).fails ≡ false
    → capacity_of c k ≤ log.head.free
    → (logging (well_formed k) log k (step ranged c k)).answer ≡ (step ranged c k).answer
never_full_capacity c k w e log h room = rw e (answers log k (step ranged c k) h (le_trans (capacity_few c k w e) room))

-- so 15 is never the answer
pub never_15 : (c : Call) (k : Sets ranged) → GivenWord c → well_formed k ≡ true → (log : Log) → (head_check log).fails ≡ false
    → named_states c k ≤ log.head.free
    → (logging (well_formed k) log k (step ranged c k)).answer ≡ refused NoFreeEntry → ⊥
never_15 c k w e log h room z = true≢false (own_refusals ranged c k NoFreeEntry (sym (never_full c k w e log h room) ∙ z))
