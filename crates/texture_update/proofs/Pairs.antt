-- An update of one mip of both halves: the run that was isolated is what the start learns by, and what is painted.
use Rattle.model.specs.Prelude.{ℕ, arith, sym, ap, subst, ◌∙◌, List, map, drop, take-append-drop, take-take}
use Rattle.model.specs.{declared.Range.Range, RangedStates.{in_state, isolate}, Texture.learn}
use Rattle.std.specs.Prelude.{◌≡◌, ◌++◌}
use Rattle.range_states.specs.{View.{view, decode, Becomes, becomes_none, becomes_live}, Coalescing.Coalesced}
use Rattle.range_isolate.specs.{declared.isolation.Isolated.Isolated, Isolation.Isolating}
use Rattle.texture_mips.specs.{Learn.LearnRoom, Paint.Leaves}
use Rattle.texture_update.specs.Pair.{PairLeft}
use Rattle.texture_mips.proofs.{Runs.the_run, Painted.{paint_is, update_is}}

module _ {a z u : ℕ} {e : List ℕ} {elen : ℕ} {i : Isolated} {e₁ : List ℕ} (is : Isolating e elen a z u i e₁) where
  -- what stands at the told place is the run
  pub run_is : drop i.position (decode i.end e₁) ≡ (isolate a z u (decode elen e)).run
  run_is =
      let x = isolate a z u (decode elen e) in
      let k : decode i.position e₁ ++ drop i.position (decode i.end e₁) ≡ decode i.end e₁ =
      ap (λ (l : List Range). l ++ drop i.position (decode i.end e₁)) (sym (take-take i.position i.end (view e₁) (omega (arith, is.some))))
      ∙ take-append-drop i.position (decode i.end e₁) in
      the_run (λ l. l) e₁ i.len x.before x.run x.after i.position i.end e₁ (omega (arith, is.fits, is.into.long))
      (becomes_live is.into) is.position is.end
      (subst (λ (l : List Range). Becomes e₁ i.end l e₁) (sym k) (becomes_none e₁ i.end (omega (arith, is.fits, is.in_all, is.into.long))))

  pub run_room : (new : ℕ) {s : List ℕ} {slen : ℕ} → LearnRoom s slen u new (isolate a z u (decode elen e)).run
      → LearnRoom s slen u new (drop i.position (decode i.end e₁))
  run_room new {s} {slen} r = subst (λ (l : List Range). LearnRoom s slen u new l) (sym run_is) r

  pub pair_is : (new slen : ℕ) {n k : ℕ} {s s' e₂ e₃ : List ℕ}
      → Leaves s n (learn u new (drop i.position (decode i.end e₁)) (decode slen s)) s'
      → Becomes e₁ i.end (decode i.position e₁ ++ map (in_state new) (drop i.position (decode i.end e₁))) e₂ → Coalesced e₂ i.len k e₃
      → PairLeft s slen e elen a z u new (record { start = n; end = k }) s' e₃
  pair_is new slen {n} {k} {s} {s'} {e₂} {e₃} l b c =
      let p = paint_is new is b in
      record {
        start = subst (λ (x : List Range). Leaves s n (learn u new x (decode slen s)) s') run_is l;
        end = update_is a z u new elen p c;
      }
