-- Texture by texture, and call by call from any well-formed sets: ranged and grid share what demand 3 lists, what is well formed stays so,
-- and both refuse alike.
use Rattle.std.specs.Prelude.{◌<◌, ◌≡◌, ◌↔◌, ◌∷◌}
use Rattle.model.specs.Prelude.{ℕ, arith, refl, sym, ap, ◌∙◌, true, and-eq-true_iff, Option, List, []}
use Rattle.model.specs.declared.{Extent.Extent, InvalidUse.InvalidUse, Refusal.Refusal, Selector.Selector, UsageFlags.UsageFlags}
use Rattle.model.specs.{Flags.flags_fit, Representation.Ends, Refusals.selector_checks, Texture.{Held, insert, merge, update, ranged}}
use Rattle.model.specs.{WellFormed.{single_fits, held_fits, ends_fit, scope_fits, tracker_fits}, CheckLaws.{Passed, passed, accepted_none}}
use Rattle.model.specs.{Base.{every, All}, Sets.{Tracker, Opening}, Calls.{Answer, done, refused, in_conflict, Call, Sets, step, newly}}
use Rattle.model.specs.ListLaws.{every_all, all_every, all_weak}
use Rattle.agreement.specs.Grid.{SubresourceConflict, grid}
use Rattle.agreement.specs.Shared.{Use, of_selector, of_texture, ranged_use, grid_use, selector_fits, use_fits, TextureShares, to_grids}
use Rattle.agreement.specs.{Shared.{seen_answer, Shares, Agree, Demand3, after_calls}, WellFormedSets.{well_formed, GivenWord}}
use Rattle.agreement.specs.Fits.{HeldFits, EndsFit, SetFits, SetsFit}
use Rattle.agreement.proofs.{TextureLaws.Measured, TrackerLaws.FitEnds, SlotLaws.fits_weak}
use Rattle.agreement.proofs.Agree.{clear_use, twice, FitS, GoodSets, one_step, shares, from_here, opened_grids, use_gives}
use Rattle.agreement.proofs.WellStates.{FlagFacts, sure_flags, use_fits_lem}
use Rattle.agreement.proofs.WellLaws.{FitW, FitEW, GivesW, PairsW, known_flags, scopes_well, trackers_well, held_in, fit_out, ends_in}
use Rattle.agreement.proofs.WellLaws.{ends_out, WellScope, WellTracker, WellSets, well_good, call_keeps_well_formed}
use Rattle.agreement.proofs.WellLaws.{opened_well_formed}
use Rattle.agreement.specs.Decides.{single_to, held_to, held_from, ends_to, ends_from, scope_to, scope_from, tracker_to, tracker_from}

selector_passed : (sh : Extent) (sel : Option Selector) → selector_fits sh sel ≡ true → Passed (selector_checks sh sel)
selector_passed sh sel e = passed _ (accepted_none _ e)

module _ (p : UsageFlags) (sh : Extent) (flags : flags_fit p ≡ true) (some_mips : 0 < sh.mips) (some_layers : 0 < sh.layers) where
  sure : FlagFacts p
  sure = sure_flags p flags

  measured : Measured sh
  measured = (some_mips, some_layers)

  gives : (u : Use) → use_fits p sh u ≡ true → GivesW p sh (ranged_use sh u) (grid_use sh u)
  gives (of_selector sel st) e =
      let a = (and-eq-true_iff (selector_fits sh sel) (single_fits p st)).0 e in let f = single_to p st a.1 in record {
        sure = sure;
        base = record {
          sure = known_flags p sure;
          measured = measured;
          gives = use_gives sh sel st (selector_passed sh sel a.0);
          clear = clear_use p sh sel st f.known;
        };
        states = use_fits_lem p sh sel st f.state;
      }
  gives (of_texture h) e = scopes_well.passed_on p sh h (held_in p sh h sure measured (held_to p sh h e))

  pairs : (u : Use) → use_fits p sh u ≡ true → PairsW p sh (ranged_use sh u) (grid_use sh u) (ranged_use sh u) (grid_use sh u)
  pairs u e = let g = gives u e in
      record { sure = sure; base = twice p sh (ranged_use sh u) (grid_use sh u) g.base; from = g.states; to = g.states; alike = refl }

  held : (h : Held) → held_fits p sh h ≡ true → FitW p sh h
  held h f = held_in p sh h sure measured (held_to p sh h f)

  ends : (x : Ends Held) → ends_fit p sh x ≡ true → FitEW p sh x
  ends x f = ends_in p sh x sure measured (ends_to p sh x f)

  held_back : (h : Held) → FitW p sh h → held_fits p sh h ≡ true
  held_back h f = held_from p sh h (fit_out p sh h measured f)

  ends_back : (x : Ends Held) → FitEW p sh x → ends_fit p sh x ≡ true
  ends_back x f = ends_from p sh x (ends_out p sh x measured f)

  pub texture_shares : (u : Use) → use_fits p sh u ≡ true → TextureShares p sh u
  texture_shares u e =
      let g = ranged_use sh u in let n = grid_use sh u in let i = scopes_well.inserted p sh g n (gives u e) in record {
        inserted = i.1;
        inserted_fits = held_back (insert p sh g) i.0;
        merged = λ h f. (scopes_well.merged p sh h g n (gives u e) (held h f)).1.0;
        conflict = λ h f. (scopes_well.merged p sh h g n (gives u e) (held h f)).1.1;
        merged_fits = λ h f. held_back (merge p sh h g).value (scopes_well.merged p sh h g n (gives u e) (held h f)).0;
        logged = λ mask x f m l. (trackers_well.logged p mask sh x g n g n (pairs u e) (ends x f) m l).0;
        updated = λ x f. (trackers_well.updated p sh x g n g n (pairs u e) (ends x f)).1;
        updated_fits = λ x f. ends_back (update p sh x g) (trackers_well.updated p sh x g n g n (pairs u e) (ends x f)).0;
      }

-- ---- the test and the records
pub sets_to : (k : Sets ranged) → well_formed k ≡ true → SetsFit k
sets_to k e = let a = (and-eq-true_iff (every scope_fits k.scopes) (every tracker_fits k.trackers)).0 e in record {
  scopes = every_all (SetFits HeldFits) scope_fits scope_to k.scopes a.0;
  trackers = every_all (λ (t : Tracker Held). SetFits EndsFit t.set) tracker_fits tracker_to k.trackers a.1;
}

sets_from : (k : Sets ranged) → SetsFit k → well_formed k ≡ true
sets_from k f = (and-eq-true_iff (every scope_fits k.scopes) (every tracker_fits k.trackers)).1 (
  all_every (SetFits HeldFits) scope_fits scope_from k.scopes f.scopes,
  all_every (λ (t : Tracker Held). SetFits EndsFit t.set) tracker_fits tracker_from k.trackers f.trackers,
)

-- ---- well-formedness: opened so, and kept
pub opened_fits : (scopes trackers : List Opening) → well_formed (newly ranged scopes trackers) ≡ true
opened_fits os ts = sets_from (newly ranged os ts) (opened_well_formed os ts)

pub call_keeps : (c : Call) (k : Sets ranged) → GivenWord c → well_formed k ≡ true → well_formed (step ranged c k).after ≡ true
call_keeps c k w e = sets_from (step ranged c k).after (call_keeps_well_formed c k w (sets_to k e))

calls_keep : (calls : List Call) (k : Sets ranged) → All GivenWord calls → well_formed k ≡ true
    → well_formed (after_calls ranged calls k) ≡ true
calls_keep [] k w e = e
calls_keep (c ∷ cs) k w e = calls_keep cs (step ranged c k).after w.1 (call_keeps c k w.0 e)

pub always_fit : (scopes trackers : List Opening) (calls : List Call) → All GivenWord calls
    → well_formed (after_calls ranged calls (newly ranged scopes trackers)) ≡ true
always_fit os ts cs w = calls_keep cs (newly ranged os ts) w (opened_fits os ts)

-- ---- what is shared
good_weak : (k : Sets ranged) → WellSets k → GoodSets k
good_weak k g = (
  all_weak WellScope (SetFits FitS) (λ s f. fits_weak FitW FitS s f (λ sh h x w. w.base)) k.scopes g.0,
  all_weak WellTracker (λ (t : Tracker Held). SetFits FitEnds t.set)
      (λ t f. fits_weak FitEW FitEnds t.set f (λ sh e x w. w.base)) k.trackers g.1,
)

pub call_shares : (c : Call) (k : Sets ranged) → well_formed k ≡ true → Shares (step ranged c k) (step grid c (to_grids k))
call_shares c k e = shares (step ranged c k) (step grid c (to_grids k)) (one_step c k (good_weak k (well_good k (sets_to k e))))

-- for every list of calls
pub agrees_from : (k : Sets ranged) → well_formed k ≡ true → (calls : List Call) → Agree k (to_grids k) calls
agrees_from k e cs = from_here cs k (good_weak k (well_good k (sets_to k e)))

pub agrees : Demand3
agrees os ts cs = rw (← opened_grids os ts) (agrees_from (newly ranged os ts) (opened_fits os ts) cs)

-- ---- refusals
alike_to : (a : Answer InvalidUse) (b : Answer SubresourceConflict) (r : Refusal) → seen_answer a ≡ b → a ≡ refused r → b ≡ refused r
alike_to a b r e h = sym e ∙ ap seen_answer h

alike_from : (a : Answer InvalidUse) (b : Answer SubresourceConflict) (r : Refusal) → seen_answer a ≡ b → b ≡ refused r → a ≡ refused r
alike_from done b r e h = absurd (let z : ◌≡◌ {A = ℕ} 0 1 = cc in omega arith)
alike_from (refused x) b r e h = let y : x ≡ r = cc in rw y
alike_from (in_conflict c) b r e h = absurd (let z : ◌≡◌ {A = ℕ} 0 1 = cc in omega arith)

pub refused_alike : (c : Call) (k : Sets ranged) → well_formed k ≡ true → (r : Refusal)
    → ((step ranged c k).answer ≡ refused r) ↔ ((step grid c (to_grids k)).answer ≡ refused r)
refused_alike c k e r = let s = (call_shares c k e).answer in (alike_to _ _ r s, alike_from _ _ r s)
