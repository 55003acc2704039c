-- The pass of `merge_run` is the model's walk; the mip is coalesced where nothing stopped it.
use Rattle.std.specs.Prelude.{◌+◌, ◌*◌, ◌≤◌, ◌<◌, ◌≡◌, ◌∷◌, ◌++◌, if◌then◌else◌}
use Rattle.model.specs.Prelude.{ℕ, suc, arith, refl, sym, ap, ◌∙◌, Bool, true, false, Option, None, Some}
use Rattle.model.specs.Prelude.{option_map, List, [], append-nil, length, get_or, length-take-le, get_or-append-add, get_or-take}
use Rattle.model.specs.{declared.{Range.Range, UsageFlags.UsageFlags, InvalidUse.InvalidUse}, Base.{Stop, walk}}
use Rattle.model.specs.{StateRules.unite_known, RangedStates.{in_state, Cut, isolate}, Representation.select}
use Rattle.model.specs.Texture.{invalid_use, merge_range, merge_every, settled}
use Rattle.range_states.specs.{View.{view, blank, decode, Becomes, view_long, becomes_live}, Coalescing.Coalesced}
use Rattle.range_isolate.specs.{declared.isolation.Isolated.Isolated, Isolation.Isolating}
use Rattle.texture_mips.specs.declared.uniting.Merged.{Merged}
use Rattle.texture_mips.specs.Pass.{passed, passed_count, Passed}
use Rattle.texture_mips.specs.Merge.{run_stops, run_takes, merge_run, Walked, PieceMerged, EveryMerged}
use Rattle.texture_mips.proofs.Runs.{coalesced_live, the_run, into_run, ran}

-- ---- one range, by what the rule makes of its state
pub stops_at : (p : UsageFlags) (new : ℕ) (r : Range) → unite_known p r.state new ≡ None → run_stops p new r ≡ true
unfolding run_stops
stops_at p new r e = rw e

pub goes_on : (p : UsageFlags) (new u : ℕ) (r : Range) → unite_known p r.state new ≡ Some u → run_stops p new r ≡ false
unfolding run_stops
goes_on p new u r e = rw e

pub takes : (p : UsageFlags) (new u : ℕ) (r : Range) → unite_known p r.state new ≡ Some u → run_takes p new r ≡ in_state u r
unfolding run_takes
takes p new u r e = rw e

-- ---- the first range that stops a pass
unfoldable first_met : {A : Type 0} → (A → Bool) → List A → Option A
first_met stop [] = None
first_met stop (x ∷ l) = if stop x then Some x else first_met stop l

module _ {A : Type 0} (stop : A → Bool) (f : A → A) (d : A) where
  met_some : (l : List A) → passed_count stop f l < length l → first_met stop l ≡ Some (get_or (passed stop f l) (passed_count stop f l) d)
  unfolding first_met passed passed_count
  met_some [] h = absurd (omega arith)
  met_some (x ∷ l) h = go (stop x) refl (met_some l)
    where
      go : (t : Bool) → stop x ≡ t
          → (passed_count stop f l < length l → first_met stop l ≡ Some (get_or (passed stop f l) (passed_count stop f l) d))
          → first_met stop (x ∷ l) ≡ Some (get_or (passed stop f (x ∷ l)) (passed_count stop f (x ∷ l)) d)
      go true q ih = rw q
      go false q ih = let k : suc (passed_count stop f l) < suc (length l) = rw q at h in rw q (ih (omega arith))

  met_none : (l : List A) → length l ≤ passed_count stop f l → first_met stop l ≡ None
  unfolding first_met passed passed_count
  met_none [] h = refl
  met_none (x ∷ l) h = go (stop x) refl (met_none l)
    where
      go : (t : Bool) → stop x ≡ t → (length l ≤ passed_count stop f l → first_met stop l ≡ None) → first_met stop (x ∷ l) ≡ None
      go true q ih = let k : suc (length l) ≤ 0 = rw q at h in absurd (omega arith)
      go false q ih = let k : suc (length l) ≤ suc (passed_count stop f l) = rw q at h in rw q (ih (omega arith))

-- ---- the model's walk
record Walks (p : UsageFlags) (k new i : ℕ) (l : List Range) : Type 0 where
  value : (walk (λ (j : ℕ). merge_range p k new) i l).value ≡ passed (run_stops p new) (run_takes p new) l
  conflict : (walk (λ (j : ℕ). merge_range p k new) i l).conflict
      ≡ option_map (λ (r : Range). invalid_use (select k (suc k) r.start r.end) r.state new) (first_met (run_stops p new) l)

walk_is : (p : UsageFlags) (k new i : ℕ) (l : List Range) → Walks p k new i l
unfolding passed first_met run_stops run_takes
walk_is p k new i [] = record { value = refl; conflict = refl }
walk_is p k new i (x ∷ l) = go (unite_known p x.state new) refl (walk_is p k new (suc i) l)
  where
    go : (o : Option ℕ) → unite_known p x.state new ≡ o → Walks p k new (suc i) l → Walks p k new i (x ∷ l)
    go None q ih = record { value = rw q; conflict = rw q }
    go (Some u) q ih = record { value = rw q (ap (λ (t : List Range). in_state u x ∷ t) ih.value); conflict = rw q ih.conflict }

-- ---- a pass over a run in the middle of a mip
module _ (p : UsageFlags) (new : ℕ) (l₁ : List ℕ) (n : ℕ) (before run after : List Range) (from to k : ℕ) (l₂ : List ℕ)
    (fits : 3 * n ≤ length l₁) (all : decode n l₁ ≡ before ++ (run ++ after)) (ef : from ≡ length before) (et : to ≡ from + length run)
    (ps : Passed (run_stops p new) (run_takes p new) l₁ from to k l₂) where
  abbrev pass : List Range → List Range
  pass = passed (run_stops p new) (run_takes p new)

  ran' : decode n l₂ ≡ before ++ (pass run ++ after)
  ran' = ran pass l₁ n before run after from to l₂ fits all ef et ps.into

  into' : Becomes l₁ to (before ++ pass run) l₂
  into' = into_run pass l₁ n before run after from to l₂ fits all ef et ps.into

  at' : k ≡ from + passed_count (run_stops p new) (run_takes p new) run
  at' = rw (the_run pass l₁ n before run after from to l₂ fits all ef et ps.into) at ps.at

  met_is : (x : Range) → k < to → x ≡ get_or (view l₂) k blank → first_met (run_stops p new) run ≡ Some x
  met_is x h e =
      let j : ℕ = passed_count (run_stops p new) (run_takes p new) run in let q : k ≡ length before + j = omega (arith, at') in
      let t : j < length run = omega (arith, at') in
      let u : get_or (view l₂) k blank ≡ get_or (pass run) j blank =
      sym (get_or-take to (view l₂) k blank h) ∙ rw (becomes_live into', q) (get_or-append-add before (pass run) j blank)
      in
      met_some (run_stops p new) (run_takes p new) blank run t ∙ ap (λ (r : Range). Some r) (sym u ∙ sym e)

  none_is : to ≤ k → first_met (run_stops p new) run ≡ None
  none_is h = met_none (run_stops p new) (run_takes p new) blank run (omega (arith, at'))

  -- where it stopped, and where it did not
  module _ (w : ℕ → Stop InvalidUse (List Range)) (wc : (i : ℕ) → (w i).conflict ≡ (walk (λ (j : ℕ). merge_range p i new) 0 run).conflict)
      (wv : (i : ℕ) → (w i).value ≡ settled (walk (λ (j : ℕ). merge_range p i new) 0 run).conflict (before
      ++ ((walk (λ (j : ℕ). merge_range p i new) 0 run).value ++ after))) where
    ends_met : (x : Range) → length l₂ ≡ length l₁ → k < to → x ≡ get_or (view l₂) k blank
        → Walked new w l₁ (record { len = n; met = Some x }) l₂
    ends_met x lg h e =
        record {
          long = lg;
          fits = fits;
          conflict = λ i. let y = walk_is p i new 0 run in sym (wc i ∙ rw (y.conflict, met_is x h e));
          seen = λ i. let y = walk_is p i new 0 run in ran' ∙ sym (wv i ∙ rw (y.value, y.conflict, met_is x h e));
        }

    ends_done : (c : ℕ) (l₃ : List ℕ) → length l₂ ≡ length l₁ → to ≤ k → Coalesced l₂ n c l₃
        → Walked new w l₁ (record { len = c; met = None }) l₃
    ends_done c l₃ lg h q =
        record {
          long = q.into.long ∙ lg;
          fits = omega (arith, q.few);
          conflict = λ i. let y = walk_is p i new 0 run in sym (wc i ∙ rw (y.conflict, none_is h));
          seen = λ i. let y = walk_is p i new 0 run in coalesced_live q ∙ rw ran' (sym (wv i ∙ rw (y.value, y.conflict, none_is h)));
        }

-- ---- a piece: the run is what `isolate` made
module _ (p : UsageFlags) (a e new : ℕ) {l : List ℕ} {len : ℕ} {i : Isolated} {l₁ : List ℕ} {k : ℕ} {l₂ : List ℕ}
    (is : Isolating l len a e p.unknown i l₁) (ps : Passed (run_stops p new) (run_takes p new) l₁ i.position i.end k l₂) where
  abbrev cut_of : Cut
  cut_of = isolate a e p.unknown (decode len l)

  rebase : {r : Merged} {l₃ : List ℕ} → Walked new (λ (j : ℕ). merge_run p j a e new (decode len l)) l₁ r l₃
      → PieceMerged p a e new l len r l₃
  rebase w = record {
    long = w.long ∙ is.into.long;
    fits = omega (arith, w.fits, is.into.long);
    conflict = w.conflict;
    seen = w.seen;
  }

  pub piece_met : {x : Range} → k < i.end → x ≡ get_or (view l₂) k blank
      → PieceMerged p a e new l len (record { len = i.len; met = Some x }) l₂
  unfolding merge_run
  piece_met {x} h q =
      rebase (ends_met p new l₁ i.len cut_of.before cut_of.run cut_of.after i.position i.end k l₂
      (omega (arith, is.fits, is.into.long)) (becomes_live is.into) is.position is.end ps
      (λ (j : ℕ). merge_run p j a e new (decode len l)) (λ j. refl) (λ j. refl) x ps.into.long h q)

  pub piece_done : {c : ℕ} {l₃ : List ℕ} → i.end ≤ k → Coalesced l₂ i.len c l₃
      → PieceMerged p a e new l len (record { len = c; met = None }) l₃
  unfolding merge_run
  piece_done {c} {l₃} h q =
      rebase (ends_done p new l₁ i.len cut_of.before cut_of.run cut_of.after i.position i.end k l₂
      (omega (arith, is.fits, is.into.long)) (becomes_live is.into) is.position is.end ps
      (λ (j : ℕ). merge_run p j a e new (decode len l)) (λ j. refl) (λ j. refl) c l₃ ps.into.long h q)

-- ---- every range: the run is the mip
module _ (p : UsageFlags) (new : ℕ) {l : List ℕ} {len k : ℕ} {l₂ : List ℕ} (fits : 3 * len ≤ length l)
    (ps : Passed (run_stops p new) (run_takes p new) l 0 len k l₂) where
  long_of : len ≡ 0 + length (decode len l)
  long_of = let v : length (decode len l) ≡ len = length-take-le len (view l) (view_long l len fits) in omega arith

  pub every_met : {x : Range} → k < len → x ≡ get_or (view l₂) k blank → EveryMerged p new l len (record { len = len; met = Some x }) l₂
  unfolding merge_every
  every_met {x} h q =
      ends_met p new l len [] (decode len l) [] 0 len k l₂ fits (sym (append-nil (decode len l))) refl long_of ps
      (λ (j : ℕ). merge_every p new j (decode len l)) (λ j. refl) (λ j. rw append-nil) x ps.into.long h q

  pub every_done : {c : ℕ} {l₃ : List ℕ} → len ≤ k → Coalesced l₂ len c l₃ → EveryMerged p new l len (record { len = c; met = None }) l₃
  unfolding merge_every
  every_done {c} {l₃} h q =
      ends_done p new l len [] (decode len l) [] 0 len k l₂ fits (sym (append-nil (decode len l))) refl long_of ps
      (λ (j : ℕ). merge_every p new j (decode len l)) (λ j. refl) (λ j. rw append-nil) c l₃ ps.into.long h q
