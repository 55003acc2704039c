-- Demand 3, from sets that are good: what holds of one texture in a scope and in a tracker is handed to the lifting of LiftCalls, for every
-- list of calls.
use Rattle.model.specs.Prelude.{ℕ, zero, suc, arith, refl, sym, ap, ◌∙◌, Bool, true, false, and-eq-true_iff, false≢true, Option, None, Some}
use Rattle.model.specs.Prelude.{option_map, [], append-nil, List, map, eqb, bit_and, bit_or, replicate, get_or, eqb-true, not-false, le-leb}
use Rattle.model.specs.Prelude.{lt-ltb}
use Rattle.model.specs.declared.{Extent.Extent, InvalidUse.InvalidUse, Selector.Selector, UsageFlags.UsageFlags}
use Rattle.model.specs.{Base.{ruled, or_keep, passes}, Representation.{is_full, Ends, full}}
use Rattle.model.specs.{Sets.{Head, outside, Slot, Set, Tracker, Opening}, Refusals.{texture_checks, selector_checks, single_refusal}}
use Rattle.model.specs.Texture.{Held, single, many, Given, given_single, given_many, from_use, from_held, ranged, Entry, merge, invalid_use}
use Rattle.model.specs.{Texture.{spread_piece, fresh_mips}, Subresources.everywhere, BoolLaws.{neither, by_test, and_left}}
use Rattle.model.specs.{CheckLaws.{inside, Passed, selector_within, single_passed}, Flags.{meets, is_bit, apart, flags_fit}}
use Rattle.model.specs.Calls.{Answer, done, refused, in_conflict, CallResult, Call, call_merge_single, call_merge_usage_scope}
use Rattle.model.specs.Calls.{call_set_single, call_set_from_usage_scope, call_set_from_tracker, call_set_and_remove_sparse, Sets, step}
use Rattle.model.specs.{Calls.newly, StateRules.{Move, invalid_state, unite}}
use Rattle.std.specs.Prelude.{◌-◌, ◌+◌, ◌≤◌, ◌<◌, ◌≡◌, ◌∷◌, if◌then◌else◌}
use Rattle.usage.specs.BitLaws.{and_or}
use Rattle.agreement.specs.Grid.{Named, grid, named_use, named_all, tab, named_row, Grid, SubresourceConflict, grid_barrier}
use Rattle.agreement.specs.Shared.{first_of, grid_of, seen, seen_slot, itself, seen_answer, Shares, Agree, grid_ends, grid_scope}
use Rattle.agreement.specs.Shared.{grid_tracker, to_grids, entries_at, grid_at}
use Rattle.agreement.proofs.{GridLaws.{map_everywhere, grid_map, grid_everywhere}, RulesAgree.update_rule}
use Rattle.agreement.proofs.TextureLaws.{Measured, Fit, Gives, gives_one, gives_place, gives_set, inserted, merged}
use Rattle.agreement.proofs.TrackerLaws.{Known, Clear, ClearHeld, ClearGiven, UnknownNonzero, KnownEnd, FitEnds, KnownO, KnownGiven}
use Rattle.agreement.proofs.{TrackerLaws.{clear_known, updated, inserted_ends, insert_clear}, BarrierLaws.{logged, at_most_one}}
use Rattle.agreement.proofs.{LiftScope.{Textures, map_answer}, LiftTracker.Tracks, LiftCalls.{Words, Stepped, Good, stepped, opened}}

measured : (h : Head) (i : ℕ) (sh : Extent) → Passed (texture_checks h i sh) → Measured sh
measured h i sh t =
    let o = neither (outside sh.mips h.numbers.mips) (outside sh.layers h.numbers.layers) t.1.0 in
    ((inside _ _ o.0).0, (inside _ _ o.1).0)

-- a selector of the full extent names every subresource
full_place : (sh : Extent) (q : Selector) → is_full sh q ≡ true
    → (q.mips.start.0 ≡ 0) × (q.mips.end.0 ≡ sh.mips) × (q.layers.start.0 ≡ 0) × (q.layers.end.0 ≡ sh.layers)
full_place sh q e =
    let h = (and-eq-true_iff _ _).0 e in let g = (and-eq-true_iff _ _).0 h.0 in let f = (and-eq-true_iff _ _).0 g.0 in
    (eqb-true _ _ f.0, eqb-true _ _ f.1, eqb-true _ _ g.1, eqb-true _ _ h.1)

pub full_grid : (sh : Extent) (q : Selector) (st : ℕ) → is_full sh q ≡ true → tab (named_row sh q st) 0 sh.mips ≡ everywhere sh (Some st)
full_grid sh q st e = go 0 sh.mips (omega arith)
  where
    f : (q.mips.start.0 ≡ 0) × (q.mips.end.0 ≡ sh.mips) × (q.layers.start.0 ≡ 0) × (q.layers.end.0 ≡ sh.layers)
    f = full_place sh q e

    row : (k : ℕ) → k < sh.mips → named_row sh q st k ≡ replicate sh.layers (Some st)
    row k h =
        let z : sh.layers - 0 ≡ sh.layers = omega arith in let y : sh.layers - sh.layers ≡ 0 = omega arith in
        rw (le-leb q.mips.start.0 k (omega (arith, f)), lt-ltb k q.mips.end.0 (omega (arith, f)), f.2, f.3, z, y, append-nil)

    go : (k n : ℕ) → k + n ≤ sh.mips → tab (named_row sh q st) k n ≡ replicate n (replicate sh.layers (Some st))
    go k zero h = refl
    go k (suc n) h = rw (row k (omega arith), go (suc k) n (omega arith))

pub use_gives : (sh : Extent) (sel : Option Selector) (st : ℕ) → Passed (selector_checks sh sel)
    → Gives sh (from_use sh sel st) (named_use sh sel st)
use_gives sh None st t = gives_one
use_gives sh (Some q) st t = go (is_full sh q) refl
  where
    go : (b : Bool) → is_full sh q ≡ b
        → Gives sh (if b then given_single st else given_many (record { selector = q; state = st } ∷ [])) (record
        { single = b; states = tab (named_row sh q st) 0 sh.mips })
    go true e = rw (full_grid sh q st e) gives_one
    go false e =
        let w = selector_within sh q t in gives_place w.span w.in_layers w.order w.in_mips

held_gives : (sh : Extent) (h : Held) → Fit sh h → Measured sh × Gives sh (from_held h) (named_all (grid_of sh h))
unfolding grid_of
held_gives sh (single st) f = (f, rw (map_everywhere {B = Option ℕ} Some sh st) gives_one)
held_gives sh (many ss) f = (f.0, gives_set ss f.1 f.2)

abbrev FitP : UsageFlags → Extent → Held → Type 0
FitP p = Fit

abbrev pub WordP : ℕ → Type 0
WordP st = Unit {0}

abbrev GivesP : UsageFlags → Extent → Given → Named → Type 0
GivesP p sh g n = Measured sh × Gives sh g n

pub textures : Textures ranged grid grid_of first_of WordP FitP GivesP
unfolding grid_of
textures = record {
  fresh = λ n. refl;
  used = λ h i sh sel st z w e.
      let c = single_passed h i sh sel st e in (measured h i sh c.texture, use_gives sh sel st c.selector);
  passed_on = λ p sh h f. held_gives sh h f;
  inserted = λ p sh g n r. inserted p sh g n r.0 r.1;
  merged = λ p sh h g n r f. merged p sh h g n r.1 f;
}

-- what holds of a scope's texture: its ranges tile, and a Single state has no UNKNOWN bit
pub record FitS (p : UsageFlags) (sh : Extent) (h : Held) : Type 0 where
  pub sure : UnknownNonzero p
  pub fit : Fit sh h
  pub clear : ClearHeld p h

-- what holds of what is handed in, as the two representations are handed it
pub record GivesC (p : UsageFlags) (sh : Extent) (g : Given) (n : Named) : Type 0 where
  pub sure : UnknownNonzero p
  pub measured : Measured sh
  pub gives : Gives sh g n
  pub clear : ClearGiven p g

-- the same of a start and an end that are handed in together
pub record Pairs (p : UsageFlags) (sh : Extent) (a : Given) (b : Named) (c : Given) (d : Named) : Type 0 where
  pub from : GivesC p sh a b
  pub to : GivesC p sh c d
  pub known : KnownGiven p a d

-- ---- a state that passed its checks has no UNKNOWN bit
clear_state : (p : UsageFlags) (st : ℕ) → meets st p.unknown ≡ false → Clear p st
clear_state p st e = eqb-true (bit_and st p.unknown) 0 (not-false (eqb (bit_and st p.unknown) 0) e)

pub clear_use : (p : UsageFlags) (sh : Extent) (sel : Option Selector) (st : ℕ) → Clear p st → ClearGiven p (from_use sh sel st)
clear_use p sh None st c = c
clear_use p sh (Some q) st c = by_test (ClearGiven p) (is_full sh q) (λ b. c) (λ b. tt)

-- flags that fit have an UNKNOWN of one bit
known_flags : (p : UsageFlags) → flags_fit p ≡ true → UnknownNonzero p
unfolding flags_fit
known_flags p e z = false≢true (rw z at (and_left (is_bit p.unknown) (apart p) e))

used : (h : Head) (i : ℕ) (sh : Extent) (sel : Option Selector) (st : ℕ) → flags_fit h.flags ≡ true → single_refusal h i sh sel st ≡ None
    → GivesC h.flags sh (from_use sh sel st) (named_use sh sel st)
used h i sh sel st s e =
    let g = textures.used h i sh sel st s tt e in
    record {
      sure = known_flags h.flags s;
      measured = g.0;
      gives = g.1;
      clear = clear_use h.flags sh sel st (clear_state h.flags st (single_passed h i sh sel st e).state.known);
    }

clear_held : (p : UsageFlags) (h : Held) → ClearHeld p h → ClearGiven p (from_held h)
clear_held p (single st) c = c
clear_held p (many ss) c = tt

passed_on : (p : UsageFlags) (sh : Extent) (h : Held) → UnknownNonzero p → Fit sh h → ClearHeld p h
    → GivesC p sh (from_held h) (named_all (grid_of sh h))
passed_on p sh h s f c = let g = held_gives sh h f in record { sure = s; measured = g.0; gives = g.1; clear = clear_held p h c }

-- ---- a merge keeps a Single texture clear
clear_union : (p : UsageFlags) (a b : ℕ) → Clear p a → Clear p b → Clear p (bit_or a b)
clear_union p a b x y = and_or a b p.unknown ∙ rw (x, y)

merge_clear : (p : UsageFlags) (sh : Extent) (h : Held) (g : Given) → ClearHeld p h → ClearGiven p g → ClearHeld p (merge p sh h g).value
unfolding merge unite
merge_clear p sh (single cur) (given_single new) x y = go (invalid_state p (bit_or cur new))
  where
    go : (b : Bool)
        → ClearHeld p (ruled (single cur) (invalid_use (full sh) cur new)
        (option_map single (if b then None else Some (bit_or cur new)))).value
    go true = x
    go false = clear_union p cur new x y
merge_clear p sh (single cur) (given_many qs) x y = go (passes (spread_piece p cur) qs (fresh_mips sh cur)).conflict
  where
    go : (o : Option InvalidUse)
        → ClearHeld p (or_keep o (single cur) (many (passes (spread_piece p cur) qs (fresh_mips sh cur)).value)).value
    go None = tt
    go (Some c) = x
merge_clear p sh (many ss) (given_single new) x y = tt
merge_clear p sh (many ss) (given_many qs) x y = tt

pub scope_facts : Textures ranged grid grid_of first_of WordP FitS GivesC
scope_facts = record {
  fresh = textures.fresh;
  used = λ h i sh sel st s w e. used h i sh sel st s e;
  passed_on = λ p sh h f. passed_on p sh h f.sure f.fit f.clear;
  inserted = λ p sh g n r. let m = inserted p sh g n r.measured r.gives in
      (record { sure = r.sure; fit = m.0; clear = insert_clear p sh g r.clear }, m.1);
  merged = λ p sh h g n r f. let m = merged p sh h g n r.gives f.fit in
      (record { sure = r.sure; fit = m.0; clear = merge_clear p sh h g f.clear r.clear }, m.1);
}

-- ---- trackers
pub twice : (p : UsageFlags) (sh : Extent) (g : Given) (n : Named) → GivesC p sh g n → Pairs p sh g n g n
twice p sh g n r = record { from = r; to = r; known = known g n r.gives r.clear }
  where
    known : (g : Given) (n : Named) → Gives sh g n → ClearGiven p g → KnownGiven p g n
    known (given_single st) n gives_one c = grid_everywhere (KnownO p.unknown) sh (Some st) (clear_known p st r.sure c)
    known (given_many qs) n g c = tt

joined : (p : UsageFlags) (sh : Extent) (e : Ends Held) → FitEnds p sh e
    → Pairs p sh (from_held e.start) (named_all (grid_of sh e.start)) (from_held e.end) (named_all (grid_of sh e.end))
joined p sh e f = record {
  from = passed_on p sh e.start f.sure f.start f.start_clear;
  to = passed_on p sh e.end f.sure f.end f.end_clear;
  known = go e.start f.known;
}
  where
    go : (s : Held) → KnownEnd p s (grid_of sh e.end).states → KnownGiven p (from_held s) (named_all (grid_of sh e.end))
    go (single st) k = grid_map (Known p.unknown) (KnownO p.unknown) Some (λ c k. k) (grid_of sh e.end).states k
    go (many ss) k = tt

pub tracker_facts : Tracks ranged grid grid_of WordP FitS FitEnds Pairs entries_at grid_at
tracker_facts = record {
  fresh = textures.fresh;
  used = λ h i sh sel st s w e. twice h.flags sh _ _ (used h i sh sel st s e);
  passed_on = λ p sh h f. twice p sh _ _ (passed_on p sh h f.sure f.fit f.clear);
  joined = joined;
  inserted = λ p sh a b c d r. inserted_ends p sh a c b d r.from.sure r.from.measured r.from.gives r.to.gives
      r.from.clear r.to.clear r.known;
  updated = λ p sh e a b c d r f. let k = updated p sh e.start e.end c d f r.to.gives r.to.clear in
      (k.fit, (λ i. record { start = k.start i; end = k.end i }) ∙ sym (update_rule p sh (grid_ends sh e) d));
  logged = λ p mask sh e a b c d r f m l.
      let z = logged p mask sh m l e.end a b f.end r.from.gives in
      (z, rw z (at_most_one (get_or (get_or (grid_barrier p mask sh (grid_of sh e.end) b) m []) l None)));
}

-- ---- what is seen of the two representations
seen_map : {H A : Type 0} (v : Extent → H → A) (l : List (Slot H))
    → map (seen_slot v) l ≡ map (seen_slot itself) (map
    (λ (x : Slot H). record { owned = x.owned; extent = x.extent; held = v x.extent x.held }) l)
seen_map v [] = refl
seen_map v (x ∷ l) = rw (seen_map v l)

sees : (s : List (Set Held)) → map (seen grid_of) s ≡ map (seen itself) (map grid_scope s)
sees [] = refl
sees (x ∷ s) = rw (sees s, seen_map grid_of x.slots)

sees_t : (s : List (Tracker Held))
    → map (λ (t : Tracker Held). seen grid_ends t.set) s ≡ map (λ (t : Tracker Grid). seen itself t.set) (map grid_tracker s)
sees_t [] = refl
sees_t (x ∷ s) = rw (sees_t s, seen_map grid_ends x.set.slots)

abbrev StepS : CallResult InvalidUse (List Entry) (Sets ranged)
    → CallResult SubresourceConflict (List (List (Option Move))) (Sets grid) → Type 0
StepS = Stepped ranged grid grid_of first_of WordP WordP FitS FitEnds GivesC Pairs entries_at grid_at

same_answer : (a : Answer InvalidUse) → seen_answer a ≡ map_answer first_of a
same_answer done = refl
same_answer (refused x) = refl
same_answer (in_conflict c) = refl

pub shares : (r : CallResult InvalidUse (List Entry) (Sets ranged)) (u : CallResult SubresourceConflict (List (List (Option Move)))
    (Sets grid)) → StepS r u → Shares r u
shares r u m = record {
  answer = same_answer r.answer ∙ m.answer;
  scopes = sees r.after.scopes ∙ ap (λ (k : Sets grid). map (seen itself) k.scopes) m.after;
  trackers = sees_t r.after.trackers
      ∙ ap (λ (k : Sets grid). map (λ (t : Tracker Grid). seen itself t.set) k.trackers) m.after;
  moves = m.moves;
  once = m.once;
}

abbrev pub GoodSets : Sets ranged → Type 0
GoodSets = Good ranged grid grid_of first_of WordP WordP FitS FitEnds GivesC Pairs entries_at grid_at

pub no_word : (c : Call) → Words WordP WordP c
no_word (call_merge_single n i sh sel st) = tt
no_word (call_merge_usage_scope n m) = tt
no_word (call_set_single n i sh sel st) = tt
no_word (call_set_from_usage_scope n m) = tt
no_word (call_set_from_tracker n m) = tt
no_word (call_set_and_remove_sparse n m is) = tt

pub one_step : (c : Call) (k : Sets ranged) → GoodSets k → StepS (step ranged c k) (step grid c (to_grids k))
one_step c k ok = stepped ranged grid grid_of first_of WordP WordP FitS FitEnds GivesC Pairs entries_at grid_at scope_facts
    tracker_facts c k (no_word c) ok

pub from_here : (cs : List Call) (k : Sets ranged) → GoodSets k → Agree k (to_grids k) cs
from_here [] k ok = tt
from_here (c ∷ cs) k ok = let m = one_step c k ok in
    (shares (step ranged c k) (step grid c (to_grids k)) m, rw (← m.after) (from_here cs (step ranged c k).after m.good))

-- newly opened sets of the two are each other's image
pub opened_grids : (os ts : List Opening) → to_grids (newly ranged os ts) ≡ newly grid os ts
opened_grids os ts = (opened ranged grid grid_of first_of WordP WordP FitS FitEnds GivesC Pairs entries_at grid_at
    scope_facts tracker_facts os ts).1
