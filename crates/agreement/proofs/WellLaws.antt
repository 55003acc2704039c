-- Every call keeps every set well formed.
use Rattle.model.specs.Prelude.{ℕ, arith, refl, sym, ap, ◌∙◌, subst, Option, None, List, [], map, eqb, bit_and, replicate, eqb-true}
use Rattle.model.specs.Prelude.{eqb-false, not-false, ne_eqb}
use Rattle.model.specs.{declared.{Extent.Extent, Range.Range, Selector.Selector, UsageFlags.UsageFlags}, Representation.Ends}
use Rattle.model.specs.{Sets.{Set, Tracker, Head, Opening}, Refusals.single_refusal}
use Rattle.model.specs.Calls.{Call, call_merge_single, call_merge_usage_scope, call_set_single, call_set_from_usage_scope}
use Rattle.model.specs.{Calls.{call_set_from_tracker, call_set_and_remove_sparse, Sets, step, newly}, RangedStates.{layer_states, Tiles}}
use Rattle.model.specs.{Texture.{Held, single, many, Given, ranged}, Subresources.everywhere}
use Rattle.model.specs.ListLaws.{all_weak, all_right, all_join, all_left, all_replicate, first_of_lem, unlike_lists}
use Rattle.model.specs.{CheckLaws.single_passed, Base.All}
use Rattle.std.specs.Prelude.{◌-◌, ◌≡◌, ◌∷◌}
use Rattle.agreement.specs.{Grid.{Grid, Named, grid, named_or}, Shared.{first_of, grid_of, entries_at, grid_at}}
use Rattle.agreement.specs.{WellFormedSets.{Word, GivenWord}, Fits.{StateFits, MipFits, HeldFits, unknowns, EndsFit, SetFits, SetsFit}}
use Rattle.agreement.proofs.TextureLaws.{Measured, Fit}
use Rattle.agreement.proofs.{TrackerLaws.{Known, KnownAll, KnownEnd, FitEnds, ClearHeld, clear_known, UnknownNonzero}, SlotLaws.fits_weak}
use Rattle.agreement.proofs.{LiftScope.Textures, LiftTracker.{Tracks, t₁, s₁, Taken}, LiftCalls.{Words, stepped, opened}}
use Rattle.agreement.proofs.Agree.{FitS, GivesC, Pairs, scope_facts, tracker_facts}
use Rattle.agreement.proofs.WellStates.{FlagFacts, sure_flags, StatesFit, NamedFit, merge_fits, insert_fits, update_end_fits}
use Rattle.agreement.proofs.WellStates.{update_start_fits, grid_alike, use_fits_lem, pass_fits, insert_back}
use Rattle.agreement.proofs.GridLaws.{GridAll, grid_everywhere}
use Rattle.usage.specs.BitLaws.{bit_nonzero}

pub known_flags : (p : UsageFlags) → FlagFacts p → UnknownNonzero p
known_flags p s = bit_nonzero 16 p.unknown s.unknown_bit

-- ---- one texture: what holds of it, and of what is handed in
-- a scope's texture, what is handed in, a tracker's texture, and a start with an end handed in: as in Agree, and with states that fit
pub record FitW (p : UsageFlags) (sh : Extent) (h : Held) : Type 0 where
  pub sure : FlagFacts p
  pub base : FitS p sh h
  pub states : StatesFit p (grid_of sh h).states

pub record GivesW (p : UsageFlags) (sh : Extent) (g : Given) (n : Named) : Type 0 where
  pub sure : FlagFacts p
  pub base : GivesC p sh g n
  pub states : NamedFit p n.states

pub record FitEW (p : UsageFlags) (sh : Extent) (e : Ends Held) : Type 0 where
  pub sure : FlagFacts p
  pub base : FitEnds p sh e
  pub start : StatesFit p (grid_of sh e.start).states
  pub end : StatesFit p (grid_of sh e.end).states
  pub alike : unknowns p.unknown (grid_of sh e.start).states ≡ unknowns p.unknown (grid_of sh e.end).states

pub record PairsW (p : UsageFlags) (sh : Extent) (a : Given) (b : Named) (c : Given) (d : Named) : Type 0 where
  pub sure : FlagFacts p
  pub base : Pairs p sh a b c d
  pub from : NamedFit p b.states
  pub to : NamedFit p d.states
  pub alike : unknowns p.unknown (map (map (named_or p.unknown)) b.states)
      ≡ unknowns p.unknown (map (map (named_or p.unknown)) d.states)

-- checks 12 and 13, and the sixteen bits
state_fits_lem : (h : Head) (i : ℕ) (sh : Extent) (sel : Option Selector) (st : ℕ) → Word st
    → single_refusal h i sh sel st ≡ None → StateFits h.flags st
state_fits_lem h i sh sel st w e =
    let c = (single_passed h i sh sel st e).state in
    record {
      nonzero = c.nonzero;
      word = w;
      compatible = c.fits;
      plain = eqb-true (bit_and st h.flags.complex) 0 (not-false _ c.plain);
    }

pub scopes_well : Textures ranged grid grid_of first_of Word FitW GivesW
scopes_well = record {
  fresh = scope_facts.fresh;
  used = λ h i sh sel st s w e.
      record {
        sure = sure_flags h.flags s;
        base = scope_facts.used h i sh sel st s tt e;
        states = use_fits_lem h.flags sh sel st (state_fits_lem h i sh sel st w e);
      };
  passed_on = λ p sh h f. record
      { sure = f.sure; base = scope_facts.passed_on p sh h f.base; states = pass_fits p (grid_of sh h) f.states };
  inserted = λ p sh g n r. let m = scope_facts.inserted p sh g n r.base in (
    record {
      sure = r.sure;
      base = m.0;
      states = subst (λ (s : Grid). StatesFit p s.states) (sym m.1)
          (insert_fits p sh n r.sure r.states);
    },
    m.1,
  );
  merged = λ p sh h g n r f. let m = scope_facts.merged p sh h g n r.base f.base in (
    record {
      sure = r.sure;
      base = m.0;
      states = subst (λ (s : Grid). StatesFit p s.states) (sym m.1.0)
          (merge_fits p sh (grid_of sh h) n f.states r.states);
    },
    m.1,
  );
}

pub trackers_well : Tracks ranged grid grid_of Word FitW FitEW PairsW entries_at grid_at
trackers_well = record {
  fresh = tracker_facts.fresh;
  used = λ h i sh sel st s w e.
      let n = use_fits_lem h.flags sh sel st (state_fits_lem h i sh sel st w e) in
      record { sure = sure_flags h.flags s; base = tracker_facts.used h i sh sel st s tt e; from = n; to = n; alike = refl };
  passed_on = λ p sh h f. let n = pass_fits p (grid_of sh h) f.states in
      record { sure = f.sure; base = tracker_facts.passed_on p sh h f.base; from = n; to = n; alike = refl };
  joined = λ p sh e f. record {
    sure = f.sure;
    base = tracker_facts.joined p sh e f.base;
    from = pass_fits p (grid_of sh e.start) f.start;
    to = pass_fits p (grid_of sh e.end) f.end;
    alike = rw (insert_back p.unknown (grid_of sh e.start).states, insert_back p.unknown (grid_of sh e.end).states) f.alike;
  };
  inserted = λ p sh a b c d r. let m = tracker_facts.inserted p sh a b c d r.base in (
    record {
      sure = r.sure;
      base = m.0;
      start = subst (λ (s : Grid). StatesFit p s.states) (sym m.1) (insert_fits p sh b r.sure r.from);
      end = subst (λ (s : Grid). StatesFit p s.states) (sym m.2) (insert_fits p sh d r.sure r.to);
      alike = ap (λ (s : Grid). unknowns p.unknown s.states) m.1 ∙ r.alike
          ∙ sym (ap (λ (s : Grid). unknowns p.unknown s.states) m.2);
    },
    m.1,
    m.2,
  );
  updated = λ p sh e a b c d r f. let m = tracker_facts.updated p sh e a b c d r.base f.base in (
    record {
      sure = f.sure;
      base = m.0;
      start = subst (λ (s : Ends Grid). StatesFit p s.start.states) (sym m.1)
          (update_start_fits p (grid_of sh e.start).states (grid_of sh e.end).states d.states f.start f.end r.to);
      end = subst (λ (s : Ends Grid). StatesFit p s.end.states) (sym m.1)
          (update_end_fits p (grid_of sh e.end).states d.states f.end r.to);
      alike = ap (λ (s : Ends Grid). unknowns p.unknown s.start.states) m.1
          ∙ grid_alike p (grid_of sh e.start).states (grid_of sh e.end).states d.states f.alike
          ∙ sym (ap (λ (s : Ends Grid). unknowns p.unknown s.end.states) m.1);
    },
    m.1,
  );
  logged = λ p mask sh e a b c d r f m l. tracker_facts.logged p mask sh e a b c d r.base f.base m l;
}

-- ---- by ranges, and by subresources
states_of_lem : (P : ℕ → Type 0) (s : List Range) → All (λ (r : Range). P r.state) s → All P (layer_states s)
unfolding layer_states
states_of_lem P [] t = tt
states_of_lem P (r ∷ s) t = all_join P (replicate (r.end - r.start) r.state) _
    (all_replicate P r.state (r.end - r.start) t.0) (states_of_lem P s t.1)

pub ranges_of : (P : ℕ → Type 0) (s : List Range) (a e : ℕ) → Tiles a s e → All P (layer_states s) → All (λ (r : Range). P r.state) s
unfolding layer_states
ranges_of P [] a e t c = tt
ranges_of P (r ∷ s) a e t c = (
  first_of_lem P r.state (r.end - r.start) (omega arith) (all_left P (replicate (r.end - r.start) r.state) (layer_states s) c),
  ranges_of P s r.end e t.2 (all_right P (replicate (r.end - r.start) r.state) (layer_states s) c),
)

mips_in_lem : (p : UsageFlags) (w : ℕ) (ss : List (List Range)) → All (MipFits p w) ss
    → All (λ (s : List Range). Tiles 0 s w) ss × GridAll (StateFits p) (map layer_states ss)
mips_in_lem p w [] t = (tt, tt)
mips_in_lem p w (s ∷ ss) t = let ih = mips_in_lem p w ss t.1 in ((t.0.tiles, ih.0), (states_of_lem (StateFits p) s t.0.states, ih.1))

mips_out : (p : UsageFlags) (w : ℕ) (ss : List (List Range)) → All (λ (s : List Range). Tiles 0 s w) ss
    → GridAll (StateFits p) (map layer_states ss) → All (MipFits p w) ss
mips_out p w [] t c = tt
mips_out p w (s ∷ ss) t c = (record { tiles = t.0; states = ranges_of (StateFits p) s 0 w t.0 c.0 }, mips_out p w ss t.1 c.1)

pub held_in : (p : UsageFlags) (sh : Extent) (h : Held) → FlagFacts p → Measured sh → HeldFits p sh h → FitW p sh h
unfolding grid_of
held_in p sh (single st) s e f = record {
  sure = s;
  base = record { sure = known_flags p s; fit = e; clear = f.known };
  states = grid_everywhere (StateFits p) sh st f.state;
}
held_in p sh (many ss) s e f = let t = mips_in_lem p sh.layers ss f.1 in record {
  sure = s;
  base = record { sure = known_flags p s; fit = (e, f.0, t.0); clear = tt };
  states = t.1;
}

held_out : (p : UsageFlags) (sh : Extent) (h : Held) → Measured sh → Fit sh h → ClearHeld p h
    → StatesFit p (grid_of sh h).states → HeldFits p sh h
unfolding grid_of
held_out p sh (single st) e f c t =
    record {
      state = first_of_lem (StateFits p) st sh.layers e.1 (first_of_lem (All (StateFits p)) (replicate sh.layers st)
          sh.mips e.0 t);
      known = c;
    }
held_out p sh (many ss) e f c t = (f.1, mips_out p sh.layers ss f.2 t)

-- a grid whose UNKNOWN subresources are another's, which has none
known_row : (u : ℕ) (r q : List ℕ) → map (λ c. eqb c u) r ≡ map (λ c. eqb c u) q → All (Known u) r → All (Known u) q
known_row u [] [] e t = tt
known_row u [] (y ∷ q) e t = absurd (unlike_lists _ _ e)
known_row u (x ∷ r) [] e t = absurd (unlike_lists _ _ (sym e))
known_row u (x ∷ r) (y ∷ q) e t =
    let a : eqb x u ≡ eqb y u = cc in let b : map (λ c. eqb c u) r ≡ map (λ c. eqb c u) q = cc in
    (eqb-false y u (sym a ∙ ne_eqb x u t.0), known_row u r q b t.1)

known_grid : (u : ℕ) (g h : List (List ℕ)) → unknowns u g ≡ unknowns u h → KnownAll u g → KnownAll u h
known_grid u [] [] e t = tt
known_grid u [] (y ∷ q) e t = absurd (unlike_lists _ _ e)
known_grid u (x ∷ r) [] e t = absurd (unlike_lists _ _ (sym e))
known_grid u (x ∷ r) (y ∷ q) e t =
    let a : map (λ c. eqb c u) x ≡ map (λ c. eqb c u) y = cc in let b : unknowns u r ≡ unknowns u q = cc in
    (known_row u x y a t.0, known_grid u r q b t.1)

known_end : (p : UsageFlags) (sh : Extent) (s : Held) (g : List (List ℕ)) → UnknownNonzero p → ClearHeld p s
    → unknowns p.unknown (grid_of sh s).states ≡ unknowns p.unknown g → KnownEnd p s g
unfolding grid_of
known_end p sh (single st) g s c e = known_grid p.unknown (everywhere sh st) g e
    (grid_everywhere (Known p.unknown) sh st (clear_known p st s c))
known_end p sh (many ss) g s c e = tt

pub ends_in : (p : UsageFlags) (sh : Extent) (e : Ends Held) → FlagFacts p → Measured sh → EndsFit p sh e → FitEW p sh e
ends_in p sh e s q f =
    let a = held_in p sh e.start s q f.start in let b = held_in p sh e.end s q f.end in record {
      sure = s;
      base = record {
        sure = known_flags p s;
        measured = q;
        start = a.base.fit;
        start_clear = a.base.clear;
        end = b.base.fit;
        end_clear = b.base.clear;
        known = known_end p sh e.start (grid_of sh e.end).states (known_flags p s) a.base.clear f.agree;
      };
      start = a.states;
      end = b.states;
      alike = f.agree;
    }

pub ends_out : (p : UsageFlags) (sh : Extent) (e : Ends Held) → Measured sh → FitEW p sh e → EndsFit p sh e
ends_out p sh e q f = record {
  start = held_out p sh e.start q f.base.start f.base.start_clear f.start;
  end = held_out p sh e.end q f.base.end f.base.end_clear f.end;
  agree = f.alike;
}

-- ---- sets
pub fit_out : (p : UsageFlags) (sh : Extent) (h : Held) → Measured sh → FitW p sh h → HeldFits p sh h
fit_out p sh h q f = held_out p sh h q f.base.fit f.base.clear f.states

abbrev pub WellScope : Set Held → Type 0
WellScope = SetFits FitW

abbrev pub WellTracker : Tracker Held → Type 0
WellTracker t = SetFits FitEW t.set

abbrev pub WellSets : Sets ranged → Type 0
WellSets k = All WellScope k.scopes × All WellTracker k.trackers

pub well_good : (k : Sets ranged) → SetsFit k → WellSets k
well_good k w = (
  all_weak (SetFits HeldFits) WellScope
      (λ s f. fits_weak HeldFits FitW s f (λ sh h x. held_in s.flags sh h (sure_flags s.flags f.flags) (x.mip, x.layer)))
      k.scopes w.scopes,
  all_weak (λ (t : Tracker Held). SetFits EndsFit t.set) WellTracker
      (λ t f. fits_weak EndsFit FitEW t.set f (λ sh e x. ends_in t.set.flags sh e (sure_flags t.set.flags f.flags)
      (x.mip, x.layer))) k.trackers w.trackers,
)

good_well : (k : Sets ranged) → WellSets k → SetsFit k
good_well k g = record {
  scopes = all_weak WellScope (SetFits HeldFits) (λ s f. fits_weak FitW HeldFits s f (λ sh h x. fit_out s.flags sh h (x.mip, x.layer)))
      k.scopes g.0;
  trackers = all_weak WellTracker (λ (t : Tracker Held). SetFits EndsFit t.set)
      (λ t f. fits_weak FitEW EndsFit t.set f (λ sh e x. ends_out t.set.flags sh e (x.mip, x.layer))) k.trackers g.1;
}

words : (c : Call) → GivenWord c → Words Word Word c
words (call_merge_single n i sh sel st) w = w
words (call_merge_usage_scope n m) w = w
words (call_set_single n i sh sel st) w = w
words (call_set_from_usage_scope n m) w = w
words (call_set_from_tracker n m) w = w
words (call_set_and_remove_sparse n m is) w = w

pub all_words : (cs : List Call) → All GivenWord cs → All (Words Word Word) cs
all_words = all_weak GivenWord (Words Word Word) words

-- each of the six calls, on any well-formed sets
pub call_keeps_well_formed : (c : Call) (k : Sets ranged) → GivenWord c → SetsFit k → SetsFit (step ranged c k).after
call_keeps_well_formed c k w f =
    good_well (step ranged c k).after
    (stepped ranged grid grid_of first_of Word Word FitW FitEW GivesW PairsW entries_at grid_at scopes_well
    trackers_well c k (words c w) (well_good k f)).good

pub opened_well_formed : (scopes trackers : List Opening) → SetsFit (newly ranged scopes trackers)
opened_well_formed os ts =
    good_well (newly ranged os ts)
    (opened ranged grid grid_of first_of Word Word FitW FitEW GivesW PairsW entries_at grid_at scopes_well trackers_well os ts).0

-- one index that the sparse call takes from the scope, and the sets after it
abbrev pub TakenW : Tracker Held → Set Held → ℕ → Type 0
TakenW = Taken ranged grid grid_of Word FitW FitEW PairsW entries_at grid_at trackers_well

abbrev pub tracker_after : Tracker Held → Set Held → ℕ → Tracker Held
tracker_after = t₁ ranged grid grid_of Word FitW FitEW PairsW entries_at grid_at trackers_well

abbrev pub scope_after : Tracker Held → Set Held → ℕ → Set Held
scope_after = s₁ ranged grid grid_of Word FitW FitEW PairsW entries_at grid_at trackers_well
