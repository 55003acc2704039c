-- The WebGPU rule after every list of calls: single merges conflict just where the uses of some named subresource do not fit, and the same
-- in the specification's own usages.
use Rattle.model.specs.Prelude.{ℕ, zero, suc, arith, refl, sym, ap, ◌∙◌, subst, true, false≢true, Option, None, Some, option_map, List, []}
use Rattle.model.specs.Prelude.{map, bit_and, slice_get, get_or}
use Rattle.model.specs.{declared.{Extent.Extent, Selector.Selector, UsageFlags.UsageFlags}, Sets.{Set, Head, head_of, Opening, slot_at}}
use Rattle.model.specs.Refusals.{tracker_index, single_refusal}
use Rattle.model.specs.Calls.{Answer, done, refused, in_conflict, Call, call_merge_single, Sets, step, newly, merge_single}
use Rattle.model.specs.Calls.{call_merge_usage_scope, call_set_single, call_set_from_usage_scope, call_set_from_tracker}
use Rattle.model.specs.{Calls.call_set_and_remove_sparse, Texture.{ranged, Held}}
use Rattle.model.specs.{ListLaws.{elem_map, all_weak, all_join, all_elem, all_get_d}, Base.{Stop, or_keep, every, All, AllO}}
use Rattle.model.specs.{BoolLaws.by_test, Flags.{meets, one_bit}}
use Rattle.std.specs.Prelude.{◌≡◌, ◌↔◌, ◌||◌, ◌∷◌, ◌++◌}
use Rattle.std.specs.Int.Count.{ones_in}
use Rattle.agreement.specs.Grid.{grid, Grid, SubresourceConflict, named_or, named_use, single_union, many_union, grid_barrier}
use Rattle.agreement.specs.Shared.{grid_scope, to_grids, grid_of, first_of, entries_at, grid_at, after_calls, itself}
use Rattle.agreement.specs.WellFormedSets.{Word, GivenWord}
use Rattle.agreement.specs.WebGpu.{Histories, histories, InConflict, Unfit, History, HandedIn, named, states_of, hand_use, history_insert}
use Rattle.agreement.specs.WebGpu.{take_states, history_merge, MergeGiven, Usage, input, constant, storage, storage_read, attachment}
use Rattle.agreement.specs.WebGpu.{attachment_read, reads, is_attachment, compatible_list, uses_fit, Renders, bench_flags, bench_bit}
use Rattle.agreement.specs.WebGpu.{wgpu_flags, Storing, write_only, read_write, atomic, storing_bit, Attaching, color_target}
use Rattle.agreement.specs.WebGpu.{depth_stencil_write, attaching_bit, wgpu_bit, no_history, uses_at, Rendered, GivenUsage, NotCompatible}
use Rattle.agreement.specs.Fits.{SetFits}
use Rattle.agreement.proofs.{GridLaws.{GridAll, grid_map}, TrackerLaws.FitEnds, BarrierLaws.at_most_one}
use Rattle.agreement.proofs.{SlotLaws.{image_set, head_image, slot_fits_lem}, LiftScope.{map_answer, Textures}, LiftTracker.Tracks}
use Rattle.agreement.proofs.LiftCalls.{Words, Good, image_sets, stepped, ran}
use Rattle.agreement.proofs.{Agree.{FitS, GivesC, Pairs, scope_facts, tracker_facts, one_step, no_word, WordP}, WellStates.use_all}
use Rattle.agreement.proofs.{WellLaws.all_words, FitLaws.flags_rule}
use Rattle.agreement.proofs.HistoryLaws.{TiedHeld, TiedGiven, AnyEnds, SameHanded, plain_view, history_scopes, history_trackers, blank_of}
use Rattle.agreement.proofs.{HistoryLaws.{takes_keep, hand_all_lem, pass_all}, ConflictLaws.conflict_unfit}

abbrev same : SubresourceConflict → SubresourceConflict
same c = c

all_free : (cs : List Call) → All (Words WordP WordP) cs
all_free [] = tt
all_free (c ∷ cs) = (no_word c, all_free cs)

-- two answers of which one is the other's image conflict alike
image_conflict : {C D : Type 0} (f : C → D) (a : Answer C) → InConflict (map_answer f a) ≡ InConflict a
image_conflict f done = refl
image_conflict f (refused r) = refl
image_conflict f (in_conflict c) = refl

module _ (os ts : List Opening) (cs : List Call) (w : All GivenWord cs) where
  abbrev KR : Sets ranged
  KR = after_calls ranged cs (newly ranged os ts)

  abbrev KT : Sets histories
  KT = after_calls histories cs (newly histories os ts)

  abbrev KS : Sets grid
  KS = after_calls grid cs (newly grid os ts)

  run_ranges : Good ranged grid grid_of first_of WordP WordP FitS FitEnds GivesC Pairs entries_at grid_at KR × (to_grids KR ≡ KS)
  run_ranges = ran ranged grid grid_of first_of WordP WordP FitS FitEnds GivesC Pairs entries_at grid_at scope_facts
      tracker_facts os ts cs (all_free cs)

  abbrev view_t : Sets histories → Sets grid
  view_t = image_sets histories grid plain_view same Word Word TiedHeld AnyEnds TiedGiven SameHanded grid_at grid_at

  run_histories : Good histories grid plain_view same Word Word TiedHeld AnyEnds TiedGiven SameHanded grid_at grid_at KT × (view_t KT ≡ KS)
  run_histories = ran histories grid plain_view same Word Word TiedHeld AnyEnds TiedGiven SameHanded grid_at grid_at history_scopes
      history_trackers os ts cs (all_words cs w)

  -- the three representations answer alike
  ranges_answer : (c : Call) → map_answer first_of (step ranged c KR).answer ≡ (step grid c KS).answer
  ranges_answer c = (one_step c KR run_ranges.0).answer ∙ ap (λ (k : Sets grid). (step grid c k).answer) run_ranges.1

  histories_answer : (c : Call) → Words Word Word c → map_answer same (step histories c KT).answer ≡ (step grid c KS).answer
  histories_answer c word =
      (stepped histories grid plain_view same Word Word TiedHeld AnyEnds TiedGiven SameHanded grid_at grid_at
      history_scopes history_trackers c
      KT word run_histories.0).answer
      ∙ ap (λ (k : Sets grid). (step grid c k).answer) run_histories.1

  -- so they conflict alike
  conflicts : (c : Call) → Words Word Word c → InConflict (step ranged c KR).answer ≡ InConflict (step histories c KT).answer
  conflicts c word =
      sym (image_conflict first_of (step ranged c KR).answer) ∙ ap InConflict (ranges_answer c ∙ sym (histories_answer c word))
      ∙ image_conflict same (step histories c KT).answer

  elem_good : {A : Type 0} (P : A → Type 0) (l : List A) (n : ℕ) (x : A) → All P l → slice_get l n ≡ Some x → P x
  elem_good P [] n x t e = absurd (let z : ◌≡◌ {A = ℕ} 0 1 = cc in native.Mathlib.Nat.not-suc-le-zero (native.Mathlib.Nat.le_of_eq (sym z)))
  elem_good P (y ∷ l) zero x t e = let h : y ≡ x = cc in subst P h t.0
  elem_good P (y ∷ l) (suc n) x t e = elem_good P l n x t.1 e

  one_merge : (n i : ℕ) (sh : Extent) (sel : Option Selector) (st : ℕ) (s : Set Histories) → slice_get KT.scopes n ≡ Some s
      → (step histories (call_merge_single n (tracker_index i) sh sel st) KT).answer ≡ (merge_single histories s i sh sel st).answer
  unfolding step
  one_merge n i sh sel st s e = rw e

  -- "WebGPU judges each subresource by the uses made of it": for a single merge that passes its checks, after any list of calls, on any
  -- scope
  webgpu_judges : (n i : ℕ) (sh : Extent) (sel : Option Selector) (st : ℕ) → Word st → (s : Set Histories)
      → slice_get KT.scopes n ≡ Some s → single_refusal (head_of s) i sh sel st ≡ None
      → (InConflict (step ranged (call_merge_single n (tracker_index i) sh sel st) KR).answer → Unfit s i sh sel st)
      × (Unfit s i sh sel st → InConflict (step ranged (call_merge_single n (tracker_index i) sh sel st) KR).answer)
  webgpu_judges n i sh sel st word s e r =
      let good = elem_good _ KT.scopes n s run_histories.0.0 e in let m = conflict_unfit s i sh sel st good word r in
      let one = conflicts (call_merge_single n (tracker_index i) sh sel st) word ∙ ap InConflict (one_merge n i sh sel st s e) in
      (λ t. m.0 (coe 0 1 (k. one k) t), λ u. coe 1 0 (k. one k) (m.1 u))

  beside : (n : ℕ) (r : Set Held) → slice_get KR.scopes n ≡ Some r
      → (s : Set Histories) × (slice_get KT.scopes n ≡ Some s) × (head_of s ≡ head_of r)
  beside n r e = go (slice_get KT.scopes n) refl
    where
      both : option_map (image_set plain_view) (slice_get KT.scopes n) ≡ Some (grid_scope r)
      both =
          sym (elem_map (image_set plain_view) KT.scopes n)
          ∙ ap (λ (k : Sets grid). slice_get k.scopes n) (run_histories.1 ∙ sym run_ranges.1)
          ∙ elem_map grid_scope KR.scopes n ∙ ap (option_map grid_scope) e

      go : (o : Option (Set Histories)) → slice_get KT.scopes n ≡ o
          → (s : Set Histories) × (slice_get KT.scopes n ≡ Some s) × (head_of s ≡ head_of r)
      go None q = absurd (let z : None ≡ Some (grid_scope r) = rw q at both in unlike (grid_scope r) z)
        where
          unlike : (x : Set Grid) → None ≡ Some x → ⊥
          unlike x e = let h : ◌≡◌ {A = ℕ} 0 1 = cc in omega arith
      go (Some s) q =
          let z : Some (image_set plain_view s) ≡ Some (grid_scope r) = rw q at both in
          let y : image_set plain_view s ≡ grid_scope r = cc in
          (s, q, sym (head_image plain_view s) ∙ ap head_of y ∙ head_image grid_of r)

  pub uses_judged : (n i : ℕ) (sh : Extent) (sel : Option Selector) (st : ℕ) → Word st → (r : Set Held) → slice_get KR.scopes n ≡ Some r
      → single_refusal (head_of r) i sh sel st ≡ None
      → (s : Set Histories) × (slice_get KT.scopes n ≡ Some s) × (head_of s ≡ head_of r)
      × (InConflict (step ranged (call_merge_single n (tracker_index i) sh sel st) KR).answer → Unfit s i sh sel st)
      × (Unfit s i sh sel st → InConflict (step ranged (call_merge_single n (tracker_index i) sh sel st) KR).answer)
  uses_judged n i sh sel st word r e c =
      let b = beside n r e in let j = webgpu_judges n i sh sel st word b.0 b.1
      (subst (λ (h : Head). single_refusal h i sh sel st ≡ None) (sym b.2) c) in (b.0, b.1, b.2, j.0, j.1)

-- ---- what holds of every use that single merges are given holds of every use that a scope has taken
-- a conflict seen as it is
same_option : {C : Type 0} (o : Option C) → option_map (λ (c : C). c) o ≡ o
same_option None = refl
same_option (Some c) = refl

module _ (W : ℕ → Type 0) where
  abbrev UsesAll : History → Type 0
  UsesAll c = All W c.uses

  abbrev HeldAll : Histories → Type 0
  HeldAll h = GridAll UsesAll h.states

  abbrev HandedAll : HandedIn → Type 0
  HandedAll g = GridAll (AllO UsesAll) g.states

  used_all : (sh : Extent) (sel : Option Selector) (st : ℕ) → W st → HandedAll (hand_use sh sel st)
  used_all sh sel st w = hand_all_lem W UsesAll (λ x h. (h, tt)) (named_use sh sel st).states (use_all W sh sel st w)

  or_blank : (p : UsageFlags) (o : Option History) → AllO UsesAll o → UsesAll (named_or (blank_of p) o)
  or_blank p None t = tt
  or_blank p (Some c) t = t

  inserted_all : (p : UsageFlags) (sh : Extent) (g : HandedIn) → HandedAll g → HeldAll (history_insert p sh g)
  inserted_all p sh g t = grid_map (AllO UsesAll) UsesAll (named_or (blank_of p)) (or_blank p) g.states t

  takes_all : (f : ℕ → ℕ → Option ℕ) (g : List (List History)) (n : List (List (Option History))) → GridAll UsesAll g
      → GridAll (AllO UsesAll) n → GridAll UsesAll (take_states f g n).value
  takes_all f = takes_keep UsesAll f (λ c g u x y e. all_join W c.uses g.uses x y)

  merged_all : (p : UsageFlags) (sh : Extent) (h : Histories) (g : HandedIn) → HeldAll h → HandedAll g
      → HeldAll (history_merge p sh h g).value
  unfolding history_merge
  merged_all p sh h g x y =
      by_test (λ (w : Stop SubresourceConflict Histories). HeldAll w.value) h.single
      (λ e. kept (take_states (single_union p) h.states g.states).conflict)
      (λ e. takes_all (many_union p) h.states g.states x y)
    where
      kept : (o : Option SubresourceConflict)
          → HeldAll (or_keep o h (record { single = g.single; states = (take_states (single_union p) h.states g.states).value })).value
      kept None = takes_all (single_union p) h.states g.states x y
      kept (Some c) = x

  -- ---- the lifting, of histories beside themselves
  abbrev FitU : UsageFlags → Extent → Histories → Type 0
  FitU p sh h = HeldAll h

  abbrev GivesU : UsageFlags → Extent → HandedIn → HandedIn → Type 0
  GivesU p sh g n = HandedAll g × (g ≡ n)

  abbrev Alike : UsageFlags → Extent → HandedIn → HandedIn → HandedIn → HandedIn → Type 0
  Alike p sh a b c d = (a ≡ b) × (c ≡ d)

  kept_scopes : Textures histories histories itself (λ (c : SubresourceConflict). c) W FitU GivesU
  kept_scopes = record {
    fresh = λ n. refl;
    used = λ h i sh sel st s w e. (used_all sh sel st w, refl);
    passed_on = λ p sh h f. (pass_all UsesAll (AllO UsesAll) (λ c x. x) h.states f, refl);
    inserted = λ p sh g n r. (inserted_all p sh g r.0, ap (history_insert p sh) r.1);
    merged = λ p sh h g n r f. (merged_all p sh h g f r.0, rw (← r.1) (refl, same_option (history_merge p sh h g).conflict));
  }

  kept_trackers : Tracks histories histories itself WordP FitU AnyEnds Alike grid_at grid_at
  kept_trackers = record {
    fresh = λ n. refl;
    used = λ h i sh sel st s w e. (refl, refl);
    passed_on = λ p sh h f. (refl, refl);
    joined = λ p sh e f. (refl, refl);
    inserted = λ p sh a b c d r. (tt, ap (history_insert p sh) r.0, ap (history_insert p sh) r.1);
    updated = λ p sh e a b c d r f. (tt, ap (histories.update p sh e) r.1);
    logged = λ p mask sh e a b c d r f m l. (
      ap (λ (n : HandedIn). grid_at m l (histories.log p mask sh e.end n)) r.0,
      at_most_one (get_or (get_or (grid_barrier p mask sh (states_of e.end) (named a)) m []) l None),
    );
  }

  words : (c : Call) → MergeGiven W c → Words W WordP c
  words (call_merge_single n i sh sel st) w = w
  words (call_merge_usage_scope n m) w = w
  words (call_set_single n i sh sel st) w = tt
  words (call_set_from_usage_scope n m) w = w
  words (call_set_from_tracker n m) w = w
  words (call_set_and_remove_sparse n m is) w = w

  pub uses_kept : (os ts : List Opening) (cs : List Call) → All (MergeGiven W) cs
      → All (SetFits FitU) (after_calls histories cs (newly histories os ts)).scopes
  uses_kept os ts cs w =
      (ran histories histories itself (λ (c : SubresourceConflict). c) W WordP FitU AnyEnds GivesU Alike grid_at grid_at kept_scopes
      kept_trackers os ts cs (all_weak (MergeGiven W) (Words W WordP) words cs w)).0.0

-- ---- renderings
pub bench_renders : Renders bench_flags bench_bit
unfolding ones_in
bench_renders = record {
  reading = read;
  storing = refl;
  attaching = refl;
  stores = refl;
  attaches = refl;
  apart = λ e. absurd (omega (arith, e));
}
  where
    read : (u : Usage) → reads u ≡ true → bit_and (bench_bit u) bench_flags.exclusive ≡ 0
    read input e = refl
    read constant e = refl
    read storage e = absurd (false≢true e)
    read storage_read e = refl
    read attachment e = absurd (false≢true e)
    read attachment_read e = refl

pub wgpu_renders : (x : Storing) (y : Attaching) → Renders wgpu_flags (wgpu_bit x y)
unfolding ones_in
wgpu_renders x y = record
    { reading = read; storing = storing x; attaching = attaching y; stores = stores x; attaches = attaches y; apart = apart x y }
  where
    read : (u : Usage) → reads u ≡ true → bit_and (wgpu_bit x y u) wgpu_flags.exclusive ≡ 0
    read input e = refl
    read constant e = refl
    read storage e = absurd (false≢true e)
    read storage_read e = refl
    read attachment e = absurd (false≢true e)
    read attachment_read e = refl

    storing : (x : Storing) → meets (storing_bit x) wgpu_flags.exclusive ≡ true
    storing write_only = refl
    storing read_write = refl
    storing atomic = refl

    attaching : (y : Attaching) → meets (attaching_bit y) wgpu_flags.exclusive ≡ true
    attaching color_target = refl
    attaching depth_stencil_write = refl

    stores : (x : Storing) → one_bit (storing_bit x) ≡ true
    stores write_only = refl
    stores read_write = refl
    stores atomic = refl

    attaches : (y : Attaching) → one_bit (attaching_bit y) ≡ true
    attaches color_target = refl
    attaches depth_stencil_write = refl

    apart : (x : Storing) (y : Attaching) → storing_bit x ≡ attaching_bit y → ⊥
    apart write_only color_target e = absurd (omega (arith, e))
    apart write_only depth_stencil_write e = absurd (omega (arith, e))
    apart read_write color_target e = absurd (omega (arith, e))
    apart read_write depth_stencil_write e = absurd (omega (arith, e))
    apart atomic color_target e = absurd (omega (arith, e))
    apart atomic depth_stencil_write e = absurd (omega (arith, e))

-- ---- the usages of a list of uses
map_append : (f : Usage → ℕ) (x y : List Usage) → map f (x ++ y) ≡ map f x ++ map f y
map_append f [] y = refl
map_append f (u ∷ x) y = rw (map_append f x y)

module _ (bit : Usage → ℕ) where
  usages_of : (us : List ℕ) → All (Rendered bit) us → (vs : List Usage) × (us ≡ map bit vs)
  usages_of [] t = ([], refl)
  usages_of (st ∷ us) t = let r = usages_of us t.1 in (t.0.0 ∷ r.0, rw (← t.0.1, ← r.1))

  taken_usages : (s : Set Histories) (i m l : ℕ) → SetFits (FitU (Rendered bit)) s → All (Rendered bit) (uses_at s i m l)
  taken_usages s i m l t =
      let x = slot_at (histories.fresh 0) s i in
      by_test (All (Rendered bit)) x.owned
      (λ o. all_get_d (UsesAll (Rendered bit)) (get_or x.held.states m []) l no_history tt
      (all_get_d (All (UsesAll (Rendered bit))) x.held.states m [] tt
      ((slot_fits_lem (FitU (Rendered bit)) s (histories.fresh 0) i t).held o)))
      (λ o. tt)

  -- the rule, with the given usage last
  with_given : (p : UsageFlags) → Renders p bit → (vs : List Usage) (u : Usage)
      → uses_fit p (map bit vs ++ (bit u ∷ [])) ≡ compatible_list (vs ++ (u ∷ [])) || every is_attachment (vs ++ (u ∷ []))
  with_given p r vs u = ap (uses_fit p) (sym (map_append bit vs (u ∷ []))) ∙ flags_rule p bit r (vs ++ (u ∷ []))

  module _ (s : Set Histories) (r : Renders s.flags bit) (i : ℕ) (sh : Extent) (sel : Option Selector) (u : Usage) where
    to_usages : SetFits (FitU (Rendered bit)) s → Unfit s i sh sel (bit u) → NotCompatible bit s i sh sel u
    to_usages t f =
        let v = usages_of (uses_at s i f.mip f.layer) (taken_usages s i f.mip f.layer t) in
        record {
          mip = f.mip;
          layer = f.layer;
          names = f.names;
          usages = v.0;
          taken = v.1;
          unfit = sym (with_given s.flags r v.0 u)
              ∙ ap (λ (us : List ℕ). uses_fit s.flags (us ++ (bit u ∷ []))) (sym v.1) ∙ f.unfit;
        }

    from_usages : NotCompatible bit s i sh sel u → Unfit s i sh sel (bit u)
    from_usages c = record {
      mip = c.mip;
      layer = c.layer;
      names = c.names;
      unfit = ap (λ (us : List ℕ). uses_fit s.flags (us ++ (bit u ∷ []))) c.taken ∙ with_given s.flags r c.usages u ∙ c.unfit;
    }

  pub usages_judged : (scopes trackers : List Opening) (calls : List Call) → All GivenWord calls → All (GivenUsage bit) calls
      → (n i : ℕ) (sh : Extent) (sel : Option Selector) (u : Usage) → Word (bit u)
      → (r : Set Held) → slice_get (after_calls ranged calls (newly ranged scopes trackers)).scopes n ≡ Some r → Renders r.flags bit
      → single_refusal (head_of r) i sh sel (bit u) ≡ None
      → (s : Set Histories) × (slice_get (after_calls histories calls (newly histories scopes trackers)).scopes n ≡ Some s)
      × (InConflict (step ranged (call_merge_single n (tracker_index i) sh sel (bit u))
      (after_calls ranged calls (newly ranged scopes trackers))).answer ↔ NotCompatible bit s i sh sel u)
  usages_judged os ts cs w g n i sh sel u word r e rr p =
      let j = uses_judged os ts cs w n i sh sel (bit u) word r e p in let s = j.0 in
      let same : s.flags ≡ r.flags = ap (λ (h : Head). h.flags) j.2 in let rs : Renders s.flags bit = rw same rr in
      let kept : AllO (SetFits (FitU (Rendered bit))) (Some s) =
      rw j.1 at (all_elem (SetFits (FitU (Rendered bit))) (after_calls histories cs (newly histories os ts)).scopes n
      (uses_kept (Rendered bit) os ts cs g)) in
      (s, j.1, (λ c. to_usages s rs i sh sel u kept (j.3 c), λ c. j.4 (from_usages s rs i sh sel u c)))
