-- A single merge conflicts just where the uses of some named subresource, with the given one, do not fit.
use Rattle.model.specs.Prelude.{ℕ, zero, suc, arith, refl, sym, ap, ◌∙◌, Bool, true, false, not, and-eq-true_iff, false≢true, Option, None}
use Rattle.model.specs.Prelude.{Some, option_map, List, [], map, leb, ltb, eqb, bit_or, or_zero_r, replicate, get_or, get_or-replicate}
use Rattle.model.specs.Prelude.{List_get_D_map, leb-true, ltb-true, le-leb, lt-ltb, not-true}
use Rattle.model.specs.declared.{Extent.Extent, Selector.Selector, UsageFlags.UsageFlags}
use Rattle.model.specs.{Base.{Stop, ruled, or_keep, onward, walk₂, All, AllO}, Flags.incompatible, Representation.{in_mips, holds, full}}
use Rattle.model.specs.{Sets.{Slot, Set, head_of, slot_at}, Refusals.{selector_checks, single_refusal}}
use Rattle.model.specs.{Calls.{Indexed, answer, merge_single}, ListLaws.{all_join, all_get_d, all_both}, BoolLaws.by_test}
use Rattle.model.specs.CheckLaws.{Passed, selector_within, SinglePassed, single_passed}
use Rattle.std.specs.Prelude.{◌≤◌, ◌<◌, ◌≡◌, ◌&&◌, ◌||◌, ◌∷◌, ◌++◌, if◌then◌else◌}
use Rattle.agreement.specs.{Grid.{SubresourceConflict, without, single_union, many_union, named_use}, WellFormedSets.Word, LogBound.one_if}
use Rattle.agreement.specs.WebGpu.{History, Histories, uses_fit, one_use, hand_use, take_state, take_states, history_merge, histories}
use Rattle.agreement.specs.{WebGpu.{no_history, Names, InConflict, Unfit}, Fits.SetFits}
use Rattle.agreement.proofs.{WellStates.use_all, FitLaws.{UseFits, union_of, fits_union}}
use Rattle.agreement.proofs.HistoryLaws.{Tied, Clear, TiedHeld, joined_union, without_clear, use_state, one_use_lem, hand_all_lem}
use Rattle.agreement.proofs.{SlotLaws.slot_fits_lem, GridLaws.{GridAll, all_of}, BarrierLaws.everywhere_at}
use Rattle.agreement.proofs.LogRoom.{use_named, named_at, is_named}
use Rattle.usage.specs.BitLaws.{and_or}

abbrev has : {C : Type 0} → Option C → Bool
has None = false
has (Some c) = true

abbrev any₂ : {A B : Type 0} → (A → B → Bool) → List A → List B → Bool
any₂ bad [] t = false
any₂ bad (a ∷ s) [] = false
any₂ bad (a ∷ s) (b ∷ t) = bad a b || any₂ bad s t

-- a walk conflicts where one of its steps does
module _ {A B C : Type 0} (h : ℕ → A → B → Stop C A) (bad : A → B → Bool) (P : A → Type 0) (Q : B → Type 0) (one : (k : ℕ) (a : A) (b : B)
    → P a → Q b → has (h k a b).conflict ≡ bad a b) where
  walk_any : (k : ℕ) (s : List A) (t : List B) → All P s → All Q t → has (walk₂ h k s t).conflict ≡ any₂ bad s t
  walk_any k [] t x y = refl
  walk_any k (a ∷ s) [] x y = refl
  walk_any k (a ∷ s) (b ∷ t) x y = go (h k a b).conflict (one k a b x.0 y.0) (walk_any (suc k) s t x.1 y.1)
    where
      go : (o : Option C) → has o ≡ bad a b → has (walk₂ h (suc k) s t).conflict ≡ any₂ bad s t
          → has (onward (h k a b).value o s (walk₂ h (suc k) s t)).conflict ≡ bad a b || any₂ bad s t
      go None e ih = rw (← e) ih
      go (Some c) e ih = rw (← e)

-- where one of two lists' pairs is bad, a position tells it; and back, if what stands past the ends is not bad
or_holds : (a b : Bool) → a || b ≡ true → (a ≡ false) → b ≡ true
or_holds true b e f = absurd (false≢true (sym f))
or_holds false b e f = e

module _ {A B : Type 0} (bad : A → B → Bool) (x : A) (y : B) where
  any_at : (s : List A) (t : List B) → any₂ bad s t ≡ true → (i : ℕ) × (bad (get_or s i x) (get_or t i y) ≡ true)
  any_at [] t e = absurd (false≢true e)
  any_at (a ∷ s) [] e = absurd (false≢true e)
  any_at (a ∷ s) (b ∷ t) e = go (bad a b) refl (λ f. any_at s t (or_holds (bad a b) (any₂ bad s t) e f))
    where
      go : (z : Bool) → bad a b ≡ z → (bad a b ≡ false → (i : ℕ) × (bad (get_or s i x) (get_or t i y) ≡ true))
          → (i : ℕ) × (bad (get_or (a ∷ s) i x) (get_or (b ∷ t) i y) ≡ true)
      go true q ih = (0, q)
      go false q ih = let r = ih q in (suc r.0, r.1)

  module _ (Q : B → Type 0) (left : (b : B) → Q b → bad x b ≡ false) (right : (a : A) → bad a y ≡ false) where
    out_left : (t : List B) (i : ℕ) → All Q t → bad x (get_or t i y) ≡ false
    out_left [] i q = right x
    out_left (b ∷ t) zero q = left b q.0
    out_left (b ∷ t) (suc i) q = out_left t i q.1

    any_of : (s : List A) (t : List B) (i : ℕ) → All Q t → bad (get_or s i x) (get_or t i y) ≡ true → any₂ bad s t ≡ true
    any_of [] t i q e = absurd (false≢true (sym (out_left t i q) ∙ e))
    any_of (a ∷ s) [] i q e = absurd (false≢true (sym (right (get_or (a ∷ s) i x)) ∙ e))
    any_of (a ∷ s) (b ∷ t) zero q e = rw e
    any_of (a ∷ s) (b ∷ t) (suc i) q e = rw (any_of s t i q.1 e) (last (bad a b))
      where
        last : (z : Bool) → z || true ≡ true
        last true = refl
        last false = refl

-- ---- one subresource
abbrev unfit : UsageFlags → History → Option History → Bool
unfit p c None = false
unfit p c (Some g) = not (uses_fit p (c.uses ++ g.uses))

twice_not : (b : Bool) → not (not b) ≡ b
twice_not true = refl
twice_not false = refl

unfit_union : (p : UsageFlags) (c g : History) → Tied p c → Tied p g
    → incompatible p (without p.unknown (bit_or c.state g.state)) ≡ not (uses_fit p (c.uses ++ g.uses))
unfit_union p c g x y =
    rw (joined_union p c g x y, fits_union p (c.uses ++ g.uses) (all_join _ c.uses g.uses x.uses y.uses))
    (sym (twice_not (incompatible p (union_of (c.uses ++ g.uses)))))

has_ruled : (m l : ℕ) (f : ℕ → ℕ → Option ℕ) (c g : History) (b : Bool) → has (f c.state g.state) ≡ not b
    → has (take_state f m l c (Some g)).conflict ≡ b
has_ruled m l f c g b e = go (f c.state g.state) e
  where
    go : (o : Option ℕ) → has o ≡ not b
        → has (ruled {C = SubresourceConflict} c (record { mip = m; layer = l; old = c.state; new = g.state })
        (option_map (λ u. record { state = u; uses = c.uses ++ g.uses }) o)).conflict ≡ b
    go None e = ap not e ∙ twice_not b
    go (Some u) e = ap not e ∙ twice_not b

single_has : (p : UsageFlags) (c g : History)
    → has (single_union p c.state g.state) ≡ not (incompatible p (bit_or c.state g.state))
unfolding single_union
single_has p c g = go (incompatible p (bit_or c.state g.state))
  where
    go : (b : Bool) → has (if b then None else Some (bit_or c.state g.state)) ≡ not b
    go true = refl
    go false = refl

many_has : (p : UsageFlags) (c g : History)
    → has (many_union p c.state g.state) ≡ not (incompatible p (without p.unknown (bit_or c.state g.state)))
unfolding many_union
many_has p c g = go (incompatible p w) (eqb w 0)
  where
    w : ℕ
    w = without p.unknown (bit_or c.state g.state)

    go : (b z : Bool) → has (if b then None else if z then Some c.state else Some w) ≡ not b
    go true z = refl
    go false true = refl
    go false false = refl

abbrev TiedClear : UsageFlags → History → Type 0
TiedClear p c = Tied p c × Clear p c

single_unfit : (p : UsageFlags) (m l : ℕ) (c : History) (o : Option History) → TiedClear p c → AllO (TiedClear p) o
    → has (take_state (single_union p) m l c o).conflict ≡ unfit p c o
single_unfit p m l c None x y = refl
single_unfit p m l c (Some g) x y =
    let e : without p.unknown (bit_or c.state g.state) ≡ bit_or c.state g.state =
    without_clear p.unknown (bit_or c.state g.state) (and_or c.state g.state p.unknown ∙ rw (x.1, y.1)) in
    has_ruled m l (single_union p) c g (not (uses_fit p (c.uses ++ g.uses)))
    (single_has p c g ∙ ap not (ap (incompatible p) (sym e) ∙ unfit_union p c g x.0 y.0))

many_unfit : (p : UsageFlags) (m l : ℕ) (c : History) (o : Option History) → Tied p c → AllO (Tied p) o
    → has (take_state (many_union p) m l c o).conflict ≡ unfit p c o
many_unfit p m l c None x y = refl
many_unfit p m l c (Some g) x y =
    has_ruled m l (many_union p) c g (not (uses_fit p (c.uses ++ g.uses))) (many_has p c g ∙ ap not (unfit_union p c g x y))

-- ---- one texture
abbrev any_unfit : UsageFlags → List (List History) → List (List (Option History)) → Bool
any_unfit p = any₂ (any₂ (unfit p))

single_any : (p : UsageFlags) (g : List (List History)) (n : List (List (Option History))) → GridAll (TiedClear p) g
    → GridAll (AllO (TiedClear p)) n → has (take_states (single_union p) g n).conflict ≡ any_unfit p g n
single_any p g n x y =
    walk_any (λ m. walk₂ (take_state (single_union p) m) 0) (any₂ (unfit p)) (All (TiedClear p)) (All (AllO (TiedClear p)))
    (λ k r q a b. walk_any (take_state (single_union p) k) (unfit p) (TiedClear p) (AllO (TiedClear p))
    (single_unfit p k) 0 r q a b) 0 g n x y

many_any : (p : UsageFlags) (g : List (List History)) (n : List (List (Option History))) → GridAll (Tied p) g → GridAll (AllO (Tied p)) n
    → has (take_states (many_union p) g n).conflict ≡ any_unfit p g n
many_any p g n x y =
    walk_any (λ m. walk₂ (take_state (many_union p) m) 0) (any₂ (unfit p)) (All (Tied p)) (All (AllO (Tied p)))
    (λ k r q a b. walk_any (take_state (many_union p) k) (unfit p) (Tied p) (AllO (Tied p)) (many_unfit p k) 0 r q a b) 0 g n x y

grid_both : {A : Type 0} (P Q : A → Type 0) (g : List (List A)) → GridAll P g → GridAll Q g → GridAll (λ (a : A). P a × Q a) g
grid_both P Q [] x y = tt
grid_both P Q (r ∷ g) x y = (all_both P Q r x.0 y.0, grid_both P Q g x.1 y.1)

merge_unfit : (p : UsageFlags) (sh : Extent) (sel : Option Selector) (st : ℕ) (h : Histories) → TiedHeld p sh h → UseFits p st
    → has (history_merge p sh h (hand_use sh sel st)).conflict ≡ any_unfit p h.states (hand_use sh sel st).states
unfolding history_merge
merge_unfit p sh sel st h f u =
    by_test (λ (w : Stop SubresourceConflict Histories). has w.conflict ≡ any_unfit p h.states G) h.single
    (λ e. kept (take_states (single_union p) h.states G).conflict _
    ∙ single_any p h.states G (grid_both (Tied p) (Clear p) h.states f.states (f.clear e)) (hand_all_lem (UseFits p) (TiedClear p)
    (λ x w. (one_use_lem p x w, w.known)) (named_use sh sel st).states all))
    (λ e. many_any p h.states G f.states (hand_all_lem (UseFits p) (Tied p) (one_use_lem p) (named_use sh sel st).states all))
  where
    G : List (List (Option History))
    G = (hand_use sh sel st).states

    all : GridAll (AllO (UseFits p)) (named_use sh sel st).states
    all = use_all (UseFits p) sh sel st u

    kept : (o : Option SubresourceConflict) (x : Histories) → has (or_keep o h x).conflict ≡ has o
    kept None x = refl
    kept (Some c) x = refl

-- ---- the subresources that a use names
holds_parts : (q : Selector) (m l : ℕ) → holds q m l ≡ true
    → (q.mips.start.0 ≤ m) × (m < q.mips.end.0) × (q.layers.start.0 ≤ l) × (l < q.layers.end.0)
holds_parts q m l h =
    let a = (and-eq-true_iff (in_mips q m && leb q.layers.start.0 l) (ltb l q.layers.end.0)).0 h in
    let b = (and-eq-true_iff (in_mips q m) (leb q.layers.start.0 l)).0 a.0 in
    let c = (and-eq-true_iff (leb q.mips.start.0 m) (ltb m q.mips.end.0)).0 b.0 in
    (leb-true _ _ c.0, ltb-true _ _ c.1, leb-true _ _ b.1, ltb-true _ _ a.1)

if_named : (b : Bool) (st : ℕ) → is_named (if b then Some st else None) ≡ true → b ≡ true
if_named true st e = refl
if_named false st e = e

one_true : (a b : Bool) → one_if a ≡ one_if b → a ≡ true → b ≡ true
one_true true true e f = refl
one_true true false e f = absurd (omega arith)
one_true false b e f = absurd (false≢true f)

abbrev Good_selector : Extent → Option Selector → Type 0
Good_selector sh sel = Passed (selector_checks sh sel)

inner : (sh : Extent) (q : Selector) → Good_selector sh (Some q) → (q.layers.start.0 < q.layers.end.0) × (q.mips.end.0 ≤ sh.mips)
inner sh q t = let w = selector_within sh q t in (w.span, w.in_mips)

named_names : (sh : Extent) (sel : Option Selector) (st m l : ℕ) → Good_selector sh sel
    → is_named (get_or (get_or (named_use sh sel st).states m []) l None) ≡ true → Names sh sel m l
named_names sh None st m l t e = let h =
    holds_parts (full sh) m l (if_named (holds (full sh) m l) st (rw (everywhere_at sh st m l) at e)) in (h.1, h.3)
named_names sh (Some q) st m l t e =
    let n = inner sh q t in holds_parts q m l (one_true (named_at (named_use sh (Some q) st) m l) (holds q m l)
    (use_named sh q st m l n.0 n.1) e)

names_named : (sh : Extent) (sel : Option Selector) (st m l : ℕ) → Good_selector sh sel → Names sh sel m l
    → is_named (get_or (get_or (named_use sh sel st).states m []) l None) ≡ true
names_named sh None st m l t e =
    rw (get_or-replicate sh.mips m (replicate sh.layers (Some st)) [] e.0, get_or-replicate sh.layers l (Some st) None e.1)
names_named sh (Some q) st m l t e =
    let n = inner sh q t in
    one_true (holds q m l) (named_at (named_use sh (Some q) st) m l) (sym (use_named sh q st m l n.0 n.1))
    (rw (
      le-leb q.mips.start.0 m e.0,
      lt-ltb m q.mips.end.0 e.1,
      le-leb q.layers.start.0 l e.2,
      lt-ltb l q.layers.end.0 e.3,
    ))

-- ---- positions
handed_at : (n : List (List (Option ℕ))) (m l : ℕ)
    → get_or (get_or (map (map (option_map one_use)) n) m []) l None ≡ option_map one_use (get_or (get_or n m []) l None)
handed_at n m l = ap (λ (r : List (Option History)). get_or r l None) (List_get_D_map (map (option_map one_use)) n m [])
    ∙ List_get_D_map (option_map one_use) (get_or n m []) l None

value_at : (sh : Extent) (sel : Option Selector) (st m l : ℕ)
    → AllO (λ (x : ℕ). x ≡ st) (get_or (get_or (named_use sh sel st).states m []) l None)
value_at sh sel st m l =
    all_get_d (AllO (λ (x : ℕ). x ≡ st)) (get_or (named_use sh sel st).states m []) l None tt
    (all_get_d (All (AllO (λ (x : ℕ). x ≡ st))) (named_use sh sel st).states m [] tt (use_all (λ (x : ℕ). x ≡ st) sh sel st refl))

abbrev uses_in : List (List History) → ℕ → ℕ → List ℕ
uses_in g m l = (get_or (get_or g m []) l no_history).uses

-- some named subresource of the grid is unfit
record UnfitIn (p : UsageFlags) (g : List (List History)) (sh : Extent) (sel : Option Selector) (st : ℕ) : Type 0 where
  mip : ℕ
  layer : ℕ
  names : Names sh sel mip layer
  unfit : uses_fit p (uses_in g mip layer ++ (st ∷ [])) ≡ false

any_unfit_lem : (p : UsageFlags) (g : List (List History)) (sh : Extent) (sel : Option Selector) (st : ℕ) → Good_selector sh sel
    → any_unfit p g (hand_use sh sel st).states ≡ true → UnfitIn p g sh sel st
any_unfit_lem p g sh sel st t e =
    let a = any_at (any₂ (unfit p)) [] [] g (hand_use sh sel st).states e in
    let b = any_at (unfit p) no_history None (get_or g a.0 []) (get_or (hand_use sh sel st).states a.0 []) a.1 in
    go a.0 b.0 (get_or (get_or (named_use sh sel st).states a.0 []) b.0 None) refl (value_at sh sel st a.0 b.0)
    (rw (handed_at (named_use sh sel st).states a.0 b.0) at b.1)
  where
    go : (m l : ℕ) (o : Option ℕ) → get_or (get_or (named_use sh sel st).states m []) l None ≡ o → AllO (λ (x : ℕ). x ≡ st) o
        → unfit p (get_or (get_or g m []) l no_history) (option_map one_use o) ≡ true → UnfitIn p g sh sel st
    go m l None q v e = absurd (false≢true e)
    go m l (Some x) q v e = record
        { mip = m; layer = l; names = named_names sh sel st m l t (ap is_named q); unfit = not-true _ (rw v at e) }

unfit_any : (p : UsageFlags) (g : List (List History)) (sh : Extent) (sel : Option Selector) (st : ℕ) → Good_selector sh sel
    → uses_fit p (st ∷ []) ≡ true → UnfitIn p g sh sel st → any_unfit p g (hand_use sh sel st).states ≡ true
unfit_any p g sh sel st t ok u =
    any_of (any₂ (unfit p)) [] [] (λ (r : List (Option History)). Unit {0}) (λ b q. refl) no_right g (hand_use sh sel st).states u.mip
    (all_of _ (λ r. tt) (hand_use sh sel st).states)
    (any_of (unfit p) no_history None Q (λ b q. lone b q) (λ a. refl) (get_or g u.mip [])
    (get_or (hand_use sh sel st).states u.mip []) u.layer
    (all_get_d (All Q) (hand_use sh sel st).states u.mip [] tt (hand_all_lem (λ (x : ℕ). x ≡ st) (λ (c : History). uses_fit p c.uses ≡ true)
    (λ x e. rw e ok) (named_use sh sel st).states (use_all (λ (x : ℕ). x ≡ st) sh sel st refl)))
    (rw (handed_at (named_use sh sel st).states u.mip u.layer)
    (go (get_or (get_or (named_use sh sel st).states u.mip []) u.layer None) (value_at sh sel st u.mip u.layer)
    (names_named sh sel st u.mip u.layer t u.names))))
  where
    Q : Option History → Type 0
    Q = AllO (λ (c : History). uses_fit p c.uses ≡ true)

    lone : (o : Option History) → Q o → unfit p no_history o ≡ false
    lone None q = refl
    lone (Some c) q = rw q

    no_right : (r : List History) → any₂ (unfit p) r [] ≡ false
    no_right [] = refl
    no_right (c ∷ r) = refl

    go : (o : Option ℕ) → AllO (λ (x : ℕ). x ≡ st) o → is_named o ≡ true
        → unfit p (get_or (get_or g u.mip []) u.layer no_history) (option_map one_use o) ≡ true
    go None v e = absurd (false≢true e)
    go (Some x) v e = rw (v, u.unfit)

-- ---- the call
conflicted_has : {C : Type 0} (i : ℕ) (o : Option C)
    → InConflict (answer (option_map (λ (c : C). record { index = i; what = c }) o)) → has o ≡ true
conflicted_has i None t = absurd t
conflicted_has i (Some c) t = refl

has_conflicted : {C : Type 0} (i : ℕ) (o : Option C) → has o ≡ true
    → InConflict (answer (option_map (λ (c : C). record { index = i; what = c }) o))
has_conflicted i None e = absurd (false≢true e)
has_conflicted i (Some c) e = tt

pub conflict_unfit : (s : Set Histories) (i : ℕ) (sh : Extent) (sel : Option Selector) (st : ℕ) → SetFits TiedHeld s → Word st
    → single_refusal (head_of s) i sh sel st ≡ None
    → (InConflict (merge_single histories s i sh sel st).answer → Unfit s i sh sel st) × (Unfit s i sh sel st
    → InConflict (merge_single histories s i sh sel st).answer)
conflict_unfit s i sh sel st w word e =
    rw e (by_test (λ (o : Stop (Indexed SubresourceConflict) (Slot Histories)). (InConflict (answer o.conflict) → Unfit s i sh sel st)
    × (Unfit s i sh sel st → InConflict (answer o.conflict))) slot.owned taken
    (λ o. (λ c. absurd c, λ x. absurd (let z : uses_fit p (st ∷ []) ≡ false = rw o at x.unfit in false≢true (sym z ∙ alone)))))
  where
    p : UsageFlags
    p = s.flags

    slot : Slot Histories
    slot = slot_at (histories.fresh 0) s i

    u : UseFits p st
    u = use_state (head_of s) i sh sel st word e

    checks : SinglePassed (head_of s) i sh sel st
    checks = single_passed (head_of s) i sh sel st e

    alone : uses_fit p (st ∷ []) ≡ true
    alone = fits_union p (st ∷ []) (u, tt) ∙ rw (or_zero_r st, checks.state.fits)

    C : Option SubresourceConflict
    C = (history_merge p sh slot.held (hand_use sh sel st)).conflict

    unfit_of : slot.owned ≡ true → UnfitIn p slot.held.states sh sel st → Unfit s i sh sel st
    unfit_of o x = record { mip = x.mip; layer = x.layer; names = x.names; unfit = rw o x.unfit }

    of_unfit : slot.owned ≡ true → Unfit s i sh sel st → UnfitIn p slot.held.states sh sel st
    of_unfit o x = record { mip = x.mip; layer = x.layer; names = x.names; unfit = rw o at x.unfit }

    taken : slot.owned ≡ true
        → (InConflict (answer (option_map (λ (c : SubresourceConflict). record { index = i; what = c }) C)) → Unfit s i sh sel st)
        × (Unfit s i sh sel st → InConflict (answer (option_map (λ (c : SubresourceConflict). record { index = i; what = c }) C)))
    taken o =
        let t = (slot_fits_lem TiedHeld s (histories.fresh 0) i w).held o in
        let tied : TiedHeld p sh slot.held = record { sure = t.sure; states = t.states; clear = t.clear } in
        let h = merge_unfit p sh sel st slot.held tied u in (
          λ c. unfit_of o (any_unfit_lem p slot.held.states sh sel st checks.selector (sym h ∙ conflicted_has i C c)),
          λ x. has_conflicted i C (h ∙ unfit_any p slot.held.states sh sel st checks.selector alone (of_unfit o x)),
        )
