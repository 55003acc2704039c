-- Scopes with their histories: their states are the grid's, and each subresource's state less UNKNOWN is the union of the uses that it has
-- taken.
use Rattle.model.specs.Prelude.{ℕ, suc, arith, refl, sym, ap, ap₂, ◌∙◌, Bool, true, false, false≢true, Option, None, Some, option_map, List}
use Rattle.model.specs.Prelude.{[], map, eqb, and_step, or_step, and_le_r, bit_and, bit_or, and_comm, and_self, or_zero_r, get_or, eqb-true}
use Rattle.model.specs.Prelude.{not-false}
use Rattle.model.specs.declared.{Extent.Extent, Selector.Selector, UsageFlags.UsageFlags}
use Rattle.model.specs.{Base.{Stop, ruled, or_keep, onward, walk₂, All, AllO}, Flags.{incompatible, flags_fit}, Representation.Ends}
use Rattle.model.specs.{Sets.Head, Refusals.single_refusal, StateRules.less, ListLaws.all_join, BoolLaws.by_test₂, CheckLaws.single_passed}
use Rattle.std.specs.Prelude.{◌-◌, ◌+◌, ◌*◌, ◌/◌, ◌%◌, ◌≡◌, ◌∷◌, ◌++◌, if◌then◌else◌}
use Rattle.agreement.specs.Grid.{Grid, Named, SubresourceConflict, without, single_union, many_union, unite_state, unite_states, named_or}
use Rattle.agreement.specs.{Grid.{named_use, named_all, grid_insert, grid_merge, grid_barrier, grid_update, grid}, Shared.grid_at}
use Rattle.agreement.specs.WellFormedSets.{Word}
use Rattle.agreement.specs.WebGpu.{History, Histories, HandedIn, one_use, hand_use, hand_all, history_insert, take_state, take_states}
use Rattle.agreement.specs.WebGpu.{history_merge, states_of, named, bare, histories}
use Rattle.agreement.proofs.{WalkLaws.Sim, RulesAgree.less_without, LiftScope.Textures, LiftTracker.Tracks}
use Rattle.agreement.proofs.{WellStates.{FlagFacts, walk₂_all, use_all, sure_flags}, FitLaws.{UseFits, union_of, union_append}}
use Rattle.agreement.proofs.{BarrierLaws.at_most_one, GridLaws.{GridAll, grid_map, grid_everywhere, grid_square, grid_back}}
use Rattle.agreement.proofs.Agree.{full_grid}
use Rattle.usage.specs.BitLaws.{and_or, or_zero, or_half, or_odd}
use Rattle.std.proofs.Math.Arith.{bin_ind}

-- ---- less UNKNOWN
less_half : (u s : ℕ) → less u s / 2 ≡ less (u / 2) (s / 2)
unfolding less
less_half u s = let a = and_step u s in let l = and_le_r (u / 2) (s / 2) in omega arith

less_odd : (u s : ℕ) → less u s % 2 ≡ s % 2 - u % 2
unfolding less
less_odd u s = let a = and_step u s in let l = and_le_r (u / 2) (s / 2) in omega arith

less_step : (u s : ℕ) → less u s ≡ less (u / 2) (s / 2) * 2 + (s % 2 - u % 2)
less_step u s = let a = less_half u s in let b = less_odd u s in omega arith

less_zero : (u : ℕ) → less u 0 ≡ 0
unfolding less
less_zero u = omega arith

-- the part of s that lies out of u
less_in : (u s : ℕ) → bit_and (less u s) u ≡ 0
less_in u s = bin_ind (λ (s : ℕ). (u : ℕ) → bit_and (less u s) u ≡ 0) (λ u. rw (less_zero u))
    (λ n ih u. and_step (less u n) u ∙ rw (less_half u n, less_odd u n, ih (u / 2)) (omega arith)) s u

less_or : (u a b : ℕ) → less u (bit_or a b) ≡ bit_or (less u a) (less u b)
less_or u a b = bin_ind (λ (a : ℕ). (b u : ℕ) → less u (bit_or a b) ≡ bit_or (less u a) (less u b)) (λ b u. rw (less_zero u))
    (λ n ih b u. less_step u (bit_or n b) ∙ ap₂ (λ (x y : ℕ). x * 2 + y)
    (rw (or_half n b) (ih (b / 2) (u / 2)) ∙ ap₂ bit_or (sym (less_half u n)) (sym (less_half u b)))
    (rw (or_odd n b, less_odd u n, less_odd u b) (omega arith))
    ∙ sym (or_step (less u n) (less u b))) a b u

without_in : (u s : ℕ) → bit_and (without u s) u ≡ 0
without_in u s = rw (less_without u s) (less_in u s)

without_or : (u a b : ℕ) → without u (bit_or a b) ≡ bit_or (without u a) (without u b)
without_or u a b = rw (less_without u (bit_or a b), less_without u a, less_without u b) (less_or u a b)

pub without_clear : (u s : ℕ) → bit_and s u ≡ 0 → without u s ≡ s
unfolding less
without_clear u s e = rw (less_without u s, and_comm u s, e) (omega arith)

without_twice : (u s : ℕ) → without u (without u s) ≡ without u s
without_twice u s = without_clear u (without u s) (without_in u s)

without_self : (u : ℕ) → without u u ≡ 0
unfolding less
without_self u = rw (less_without u u, and_self u) (omega arith)

-- ---- one subresource
pub record Tied (p : UsageFlags) (c : History) : Type 0 where
  pub union : without p.unknown c.state ≡ union_of c.uses
  pub uses : All (UseFits p) c.uses

abbrev pub Clear : UsageFlags → History → Type 0
Clear p c = bit_and c.state p.unknown ≡ 0

pub one_use_lem : (p : UsageFlags) (st : ℕ) → UseFits p st → Tied p (one_use st)
one_use_lem p st f = record { union = without_clear p.unknown st f.known ∙ sym (or_zero_r st); uses = (f, tt) }

blank_state : (p : UsageFlags) → Tied p (record { state = p.unknown; uses = [] })
blank_state p = record { union = without_self p.unknown; uses = tt }

pub joined_union : (p : UsageFlags) (c g : History) → Tied p c → Tied p g
    → without p.unknown (bit_or c.state g.state) ≡ union_of (c.uses ++ g.uses)
joined_union p c g x y = without_or p.unknown c.state g.state ∙ rw (x.union, y.union) (sym (union_append c.uses g.uses))

-- what a rule for states does to a subresource
abbrev pub after : History → History → ℕ → History
after c g u = record { state = u; uses = c.uses ++ g.uses }

single_tied : (p : UsageFlags) (c g : History) (u : ℕ) → Tied p c → Tied p g
    → single_union p c.state g.state ≡ Some u → Tied p (after c g u)
unfolding single_union
single_tied p c g u x y e = go (incompatible p (bit_or c.state g.state)) e
  where
    go : (b : Bool) → (if b then None else Some (bit_or c.state g.state)) ≡ Some u → Tied p (after c g u)
    go true e = absurd (let z : ◌≡◌ {A = ℕ} 0 1 = cc in omega arith)
    go false e = let h : bit_or c.state g.state ≡ u = cc in
        record { union = rw (← h) (joined_union p c g x y); uses = all_join _ c.uses g.uses x.uses y.uses }

single_clear : (p : UsageFlags) (c g : History) (u : ℕ) → Clear p c → Clear p g
    → single_union p c.state g.state ≡ Some u → bit_and u p.unknown ≡ 0
unfolding single_union
single_clear p c g u x y e = go (incompatible p (bit_or c.state g.state)) e
  where
    go : (b : Bool) → (if b then None else Some (bit_or c.state g.state)) ≡ Some u → bit_and u p.unknown ≡ 0
    go true e = absurd (let z : ◌≡◌ {A = ℕ} 0 1 = cc in omega arith)
    go false e = let h : bit_or c.state g.state ≡ u = cc in rw (← h) (and_or c.state g.state p.unknown ∙ rw (x, y))

many_tied : (p : UsageFlags) (c g : History) (u : ℕ) → Tied p c → Tied p g
    → many_union p c.state g.state ≡ Some u → Tied p (after c g u)
unfolding many_union
many_tied p c g u x y e = go (incompatible p w) (eqb w 0) refl e
  where
    w : ℕ
    w = without p.unknown (bit_or c.state g.state)

    all : All (UseFits p) (c.uses ++ g.uses)
    all = all_join _ c.uses g.uses x.uses y.uses

    go : (b z : Bool) → eqb w 0 ≡ z → (if b then None else if z then Some c.state else Some w) ≡ Some u → Tied p (after c g u)
    go true z q e = absurd (let z : ◌≡◌ {A = ℕ} 0 1 = cc in omega arith)
    go false true q e =
        let h : c.state ≡ u = cc in let zero = eqb-true w 0 q in
        let both = or_zero (union_of c.uses) (union_of g.uses) (sym (union_append c.uses g.uses)
        ∙ sym (joined_union p c g x y) ∙ zero) in
        record { union = rw (← h) (x.union ∙ both.0 ∙ sym zero ∙ joined_union p c g x y); uses = all }
    go false false q e =
        let h : w ≡ u = cc in
        record { union = rw (← h) (without_twice p.unknown (bit_or c.state g.state) ∙ joined_union p c g x y); uses = all }

-- ---- walks
module _ (P : History → Type 0) (f : ℕ → ℕ → Option ℕ) (keeps : (c g : History) (u : ℕ) → P c → P g → f c.state g.state
    ≡ Some u → P (after c g u)) where
  take_keeps : (m l : ℕ) (c : History) (o : Option History) → P c → AllO P o → P (take_state f m l c o).value
  take_keeps m l c None x y = x
  take_keeps m l c (Some g) x y = go (f c.state g.state) refl
    where
      go : (o : Option ℕ) → f c.state g.state ≡ o
          → P (ruled {C = SubresourceConflict} c (record { mip = m; layer = l; old = c.state; new = g.state })
          (option_map (after c g) o)).value
      go None e = x
      go (Some u) e = keeps c g u x y e

  pub takes_keep : (g : List (List History)) (n : List (List (Option History))) → GridAll P g → GridAll (AllO P) n
      → GridAll P (take_states f g n).value
  takes_keep g n a b =
      walk₂_all (All P) (All (AllO P)) (λ m. walk₂ (take_state f m) 0)
      (λ k r q x y. walk₂_all P (AllO P) (take_state f k) (take_keeps k) 0 r q x y) 0 g n a b

abbrev state_of : History → ℕ
state_of c = c.state

abbrev states_o : Option History → Option ℕ
states_o = option_map state_of

-- the walk over subresources with their uses is the grid's
module _ {A B C : Type 0} {A' B' : Type 0} (v : A → A') (w : B → B') (h : ℕ → A → B → Stop C A) (h' : ℕ → A' → B' → Stop C A')
    (one : (k : ℕ) (a : A) (b : B) → (v (h k a b).value ≡ (h' k (v a) (w b)).value)
    × ((h k a b).conflict ≡ (h' k (v a) (w b)).conflict)) where
  onward_map : (x : A) (o : Option C) (was : List A) (r : Stop C (List A)) (x' : A') (o' : Option C) (r' : Stop C (List A')) → v x ≡ x'
      → o ≡ o' → map v r.value ≡ r'.value → r.conflict ≡ r'.conflict
      → (map v (onward x o was r).value ≡ (onward x' o' (map v was) r').value)
      × ((onward x o was r).conflict ≡ (onward x' o' (map v was) r').conflict)
  onward_map x None was r x' o' r' a b c d = rw (← b) (cc, d)
  onward_map x (Some z) was r x' o' r' a b c d = rw (← b) (cc, refl)

  walk_map : (k : ℕ) (s : List A) (t : List B)
      → (map v (walk₂ h k s t).value ≡ (walk₂ h' k (map v s) (map w t)).value)
      × ((walk₂ h k s t).conflict ≡ (walk₂ h' k (map v s) (map w t)).conflict)
  walk_map k [] t = (refl, refl)
  walk_map k (x ∷ s) [] = (refl, refl)
  walk_map k (x ∷ s) (y ∷ t) =
      let o = one k x y in let ih = walk_map (suc k) s t in
      onward_map (h k x y).value (h k x y).conflict s (walk₂ h (suc k) s t) _ _ _ o.0 o.1 ih.0 ih.1

state_map : (f : ℕ → ℕ → Option ℕ) (m l : ℕ) (c : History) (o : Option History)
    → ((take_state f m l c o).value.state ≡ (unite_state f m l c.state (states_o o)).value)
    × ((take_state f m l c o).conflict ≡ (unite_state f m l c.state (states_o o)).conflict)
state_map f m l c None = (refl, refl)
state_map f m l c (Some g) = go (f c.state g.state)
  where
    z : SubresourceConflict
    z = record { mip = m; layer = l; old = c.state; new = g.state }

    go : (o : Option ℕ)
        → ((ruled c z (option_map (after c g) o)).value.state ≡ (ruled c.state z o).value)
        × ((ruled c z (option_map (after c g) o)).conflict ≡ (ruled c.state z o).conflict)
    go None = (refl, refl)
    go (Some u) = (refl, refl)

states_map : (f : ℕ → ℕ → Option ℕ) (g : List (List History)) (n : List (List (Option History)))
    → (map (map state_of) (take_states f g n).value ≡ (unite_states f (map (map state_of) g) (map (map states_o) n)).value)
    × ((take_states f g n).conflict ≡ (unite_states f (map (map state_of) g) (map (map states_o) n)).conflict)
states_map f g n =
    walk_map (map state_of) (map states_o) (λ m. walk₂ (take_state f m) 0) (λ m. walk₂ (unite_state f m) 0)
    (λ k a b. walk_map state_of states_o (take_state f k) (unite_state f k) (state_map f k) 0 a b) 0 g n

-- ---- one texture
pub record TiedHeld (p : UsageFlags) (sh : Extent) (h : Histories) : Type 0 where
  pub sure : FlagFacts p
  pub states : GridAll (Tied p) h.states
  pub clear : h.single ≡ true → GridAll (Clear p) h.states

pub record TiedGiven (p : UsageFlags) (sh : Extent) (g : HandedIn) (n : Named) : Type 0 where
  pub sure : FlagFacts p
  pub same : named g ≡ n
  pub states : GridAll (AllO (Tied p)) g.states
  pub clear : g.single ≡ true → GridAll (AllO (Clear p)) g.states
  pub single : g.single ≡ true → GridAll (λ (o : Option History). o ≡ None → ⊥) g.states

history_merged : (p : UsageFlags) (sh : Extent) (h : Histories) (g : HandedIn) (n : Named) → TiedGiven p sh g n → TiedHeld p sh h
    → TiedHeld p sh (history_merge p sh h g).value
    × Sim states_of (λ (c : SubresourceConflict). c) (history_merge p sh h g) (grid_merge p sh (states_of h) n)
unfolding history_merge grid_merge
history_merged p sh h g n r f =
    rw (← r.same) (by_test₂ (λ (w : Stop SubresourceConflict Histories) (v : Stop SubresourceConflict Grid). TiedHeld p sh w.value
    × Sim states_of (λ (c : SubresourceConflict). c) w v) h.single
    (λ e. both e W.conflict V₀.conflict (states_map (single_union p) h.states g.states).1)
    (λ e. let m = states_map (many_union p) h.states g.states in (
      record {
        sure = f.sure;
        states = takes_keep (Tied p) (many_union p) (many_tied p) h.states g.states f.states r.states;
        clear = λ (z : false ≡ true). absurd (false≢true z);
      },
      (
        ap (λ (x : List (List ℕ)). record { single = false; states = x }) m.0,
        idle (take_states (many_union p) h.states g.states).conflict ∙ m.1,
      ),
    )))
  where
    idle : (o : Option SubresourceConflict) → option_map (λ (c : SubresourceConflict). c) o ≡ o
    idle None = refl
    idle (Some c) = refl

    W : Stop SubresourceConflict (List (List History))
    W = take_states (single_union p) h.states g.states

    V₀ : Stop SubresourceConflict (List (List ℕ))
    V₀ = unite_states (single_union p) (map (map state_of) h.states) (map (map states_o) g.states)

    both : h.single ≡ true → (o o' : Option SubresourceConflict) → o ≡ o'
        → TiedHeld p sh (or_keep o h (record { single = g.single; states = W.value })).value
        × Sim states_of (λ (c : SubresourceConflict). c) (or_keep o h (record { single = g.single; states = W.value })) (or_keep o'
        (states_of h) (record { single = g.single; states = V₀.value }))
    both e None o' q = rw (← q) (
      record {
        sure = f.sure;
        states = takes_keep (Tied p) (single_union p) (single_tied p) h.states g.states f.states r.states;
        clear = λ m. takes_keep (Clear p) (single_union p) (λ c g u. single_clear p c g u) h.states g.states (f.clear e) (r.clear m);
      },
      (ap (λ (x : List (List ℕ)). record { single = g.single; states = x }) (states_map (single_union p) h.states g.states).0, refl),
    )
    both e (Some c) o' q = rw (← q) (f, (refl, refl))

-- ---- what is handed in
grid_states : (g : List (List (Option ℕ))) → map (map states_o) (map (map (option_map one_use)) g) ≡ g
grid_states = grid_back (option_map one_use) states_o one
  where
    one : (o : Option ℕ) → states_o (option_map one_use o) ≡ o
    one None = refl
    one (Some x) = refl

-- check 12, and the sixteen bits
pub use_state : (h : Head) (i : ℕ) (sh : Extent) (sel : Option Selector) (st : ℕ) → Word st
    → single_refusal h i sh sel st ≡ None → UseFits h.flags st
use_state h i sh sel st w e =
    let c = (single_passed h i sh sel st e).state in
    record { nonzero = c.nonzero; word = w; known = eqb-true (bit_and st h.flags.unknown) 0 (not-false _ c.known) }

pub hand_all_lem : (P : ℕ → Type 0) (Q : History → Type 0) → ((x : ℕ) → P x → Q (one_use x))
    → (g : List (List (Option ℕ))) → GridAll (AllO P) g
    → GridAll (AllO Q) (map (map (option_map one_use)) g)
hand_all_lem P Q h g t = grid_map (AllO P) (AllO Q) (option_map one_use) one g t
  where
    one : (o : Option ℕ) → AllO P o → AllO Q (option_map one_use o)
    one None t = tt
    one (Some x) t = h x t

abbrev There : {A : Type 0} → Option A → Type 0
There o = o ≡ None → ⊥

some_there : {A : Type 0} (x : A) → There (Some x)
some_there x e = let h : ◌≡◌ {A = ℕ} 0 1 = cc in omega arith

hand_there : (g : List (List (Option ℕ))) → GridAll There g → GridAll There (map (map (option_map one_use)) g)
hand_there g t = grid_map There There (option_map one_use) one g t
  where
    one : (o : Option ℕ) → There o → There (option_map one_use o)
    one None t = absurd (t refl)
    one (Some x) t = some_there (one_use x)

use_there : (sh : Extent) (sel : Option Selector) (st : ℕ) → (named_use sh sel st).single ≡ true
    → GridAll There (named_use sh sel st).states
use_there sh None st e = grid_everywhere There sh (Some st) (some_there st)
use_there sh (Some q) st e = rw (full_grid sh q st e) (grid_everywhere There sh (Some st) (some_there st))

history_used : (h : Head) (i : ℕ) (sh : Extent) (sel : Option Selector) (st : ℕ) → flags_fit h.flags ≡ true → Word st
    → single_refusal h i sh sel st ≡ None
    → TiedGiven h.flags sh (hand_use sh sel st) (named_use sh sel st)
history_used h i sh sel st s w e =
    let u = use_state h i sh sel st w e in let all = use_all (UseFits h.flags) sh sel st u in record {
      sure = sure_flags h.flags s;
      same = λ i. record { single = (named_use sh sel st).single; states = grid_states (named_use sh sel st).states i };
      states = hand_all_lem (UseFits h.flags) (Tied h.flags) (one_use_lem h.flags) (named_use sh sel st).states all;
      clear = λ m. hand_all_lem (UseFits h.flags) (Clear h.flags) (λ x f. f.known) (named_use sh sel st).states all;
      single = λ m. hand_there (named_use sh sel st).states (use_there sh sel st m);
    }

grid_pass : (g : List (List History)) → map (map states_o) (map (map Some) g) ≡ map (map Some) (map (map state_of) g)
grid_pass = grid_square Some states_o state_of Some (λ c. refl)

pub pass_all : (P : History → Type 0) (Q : Option History → Type 0) → ((c : History) → P c → Q (Some c)) → (g : List (List History))
    → GridAll P g → GridAll Q (map (map Some) g)
pass_all P Q h g t = grid_map P Q Some h g t

history_passed : (p : UsageFlags) (sh : Extent) (h : Histories) → TiedHeld p sh h → TiedGiven p sh (hand_all h) (named_all (states_of h))
history_passed p sh h f = record {
  sure = f.sure;
  same = λ i. record { single = h.single; states = grid_pass h.states i };
  states = pass_all (Tied p) (AllO (Tied p)) (λ c x. x) h.states f.states;
  clear = λ m. pass_all (Clear p) (AllO (Clear p)) (λ c x. x) h.states (f.clear m);
  single = λ m. pass_all (Tied p) There (λ c x. some_there c) h.states f.states;
}

-- ---- insert
abbrev pub blank_of : UsageFlags → History
blank_of p = record { state = p.unknown; uses = [] }

grid_insert_lem : (p : UsageFlags) (g : List (List (Option History)))
    → map (map state_of) (map (map (named_or (blank_of p))) g) ≡ map (map (named_or p.unknown)) (map (map states_o) g)
grid_insert_lem p = grid_square (named_or (blank_of p)) state_of states_o (named_or p.unknown) one
  where
    one : (o : Option History) → state_of (named_or (blank_of p) o) ≡ named_or p.unknown (states_o o)
    one None = refl
    one (Some c) = refl

row_clear : (p : UsageFlags) (r : List (Option History)) → All (AllO (Clear p)) r → All There r
    → All (Clear p) (map (named_or (blank_of p)) r)
row_clear p [] a b = tt
row_clear p (None ∷ r) a b = absurd (b.0 refl)
row_clear p (Some c ∷ r) a b = (a.0, row_clear p r a.1 b.1)

grid_clear : (p : UsageFlags) (g : List (List (Option History))) → GridAll (AllO (Clear p)) g → GridAll There g
    → GridAll (Clear p) (map (map (named_or (blank_of p))) g)
grid_clear p [] a b = tt
grid_clear p (r ∷ g) a b = (row_clear p r a.0 b.0, grid_clear p g a.1 b.1)

or_else_tied : (p : UsageFlags) (o : Option History) → AllO (Tied p) o → Tied p (named_or (blank_of p) o)
or_else_tied p None t = blank_state p
or_else_tied p (Some c) t = t

insert_states : (p : UsageFlags) (sh : Extent) (g : HandedIn) (n : Named) → named g ≡ n
    → states_of (history_insert p sh g) ≡ grid_insert p sh n
insert_states p sh g n e = (λ i. record { single = g.single; states = grid_insert_lem p g.states i }) ∙ ap (grid_insert p sh) e

history_inserted : (p : UsageFlags) (sh : Extent) (g : HandedIn) (n : Named) → TiedGiven p sh g n
    → TiedHeld p sh (history_insert p sh g) × (states_of (history_insert p sh g) ≡ grid_insert p sh n)
history_inserted p sh g n r = (
  record {
    sure = r.sure;
    states = grid_map (AllO (Tied p)) (Tied p) (named_or (blank_of p)) (or_else_tied p) g.states r.states;
    clear = λ m. grid_clear p g.states (r.clear m) (r.single m);
  },
  insert_states p sh g n r.same,
)

abbrev pub plain_view : Extent → Histories → Grid
plain_view sh h = states_of h

pub history_scopes : Textures histories grid plain_view (λ (c : SubresourceConflict). c) Word TiedHeld TiedGiven
history_scopes = record {
  fresh = λ n. refl;
  used = history_used;
  passed_on = history_passed;
  inserted = history_inserted;
  merged = history_merged;
}

-- ---- trackers: their states are the grid's
abbrev pub AnyEnds : UsageFlags → Extent → Ends Histories → Type 0
AnyEnds p sh e = Unit {0}

abbrev pub SameHanded : UsageFlags → Extent → HandedIn → Named → HandedIn → Named → Type 0
SameHanded p sh a b c d = (named a ≡ b) × (named c ≡ d)

states_bare : (s : Grid) → states_of (bare s) ≡ s
states_bare s = λ i. record
    { single = s.single; states = grid_back (λ (c : ℕ). record { state = c; uses = [] }) state_of (λ c. refl) s.states i }

pass_same : (h : Histories) → named (hand_all h) ≡ named_all (states_of h)
pass_same h = λ i. record { single = h.single; states = grid_pass h.states i }

pub history_trackers : Tracks histories grid plain_view Word TiedHeld AnyEnds SameHanded grid_at grid_at
history_trackers = record {
  fresh = λ n. refl;
  used = λ h i sh sel st s w e. let r : named (hand_use sh sel st) ≡ named_use sh sel st = λ i.
      record { single = (named_use sh sel st).single; states = grid_states (named_use sh sel st).states i } in (r, r);
  passed_on = λ p sh h f. (pass_same h, pass_same h);
  joined = λ p sh e f. (pass_same e.start, pass_same e.end);
  inserted = λ p sh a b c d r. (tt, insert_states p sh a b r.0, insert_states p sh c d r.1);
  updated = λ p sh e a b c d r f.
      let s = grid_update p sh (record { start = states_of e.start; end = states_of e.end }) (named c) in (
        tt,
        (λ i. record { start = states_bare s.start i; end = states_bare s.end i })
            ∙ ap (grid_update p sh (record { start = states_of e.start; end = states_of e.end })) r.1,
      );
  logged = λ p mask sh e a b c d r f m l. (
    ap (λ (n : Named). grid_at m l (grid_barrier p mask sh (states_of e.end) n)) r.0,
    at_most_one (get_or (get_or (grid_barrier p mask sh (states_of e.end) (named a)) m []) l None),
  );
}
