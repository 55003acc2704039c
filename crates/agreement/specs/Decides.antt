-- The test of a well-formed set (model, WellFormed) decides the records that the proofs go by (Fits): both directions, for scopes and for
-- trackers.
use Rattle.model.specs.Prelude.{ℕ, arith, refl, sym, Bool, true, false, not, and-eq-true_iff, List, [], map, eqb, bit_and, eqb-true}
use Rattle.model.specs.Prelude.{eqb-false, ltb-true, not-true, not-false, eq-eqb, ne_eqb, lt-ltb, le-ltb}
use Rattle.model.specs.{declared.{Extent.Extent, Range.Range, UsageFlags.UsageFlags}, Flags.meets, Representation.Ends}
use Rattle.model.specs.{Sets.{Numbers, Slot, Set, Tracker, outside}, Refusals.extent_outside, RangedStates.Tiles}
use Rattle.model.specs.{Texture.{Held, single, many}, Subresources.subresources}
use Rattle.model.specs.WellFormed.{state_fits, single_fits, ranges_fit, held_fits, same_test, all₂, same_unknown, ends_fit, slot_fits}
use Rattle.model.specs.{WellFormed.{set_fits, scope_fits, tracker_fits}, ListLaws.{every_all, all_every}}
use Rattle.model.specs.{BoolLaws.{by_test, neither, both, and_left, and_right, false_not}, CheckLaws.inside, Base.All}
use Rattle.std.specs.Prelude.{◌≤◌, ◌<◌, ◌≡◌, ◌∷◌}
use Rattle.agreement.specs.Shared.{grid_of}
use Rattle.agreement.specs.Fits.{StateFits, SingleFits, MipFits, HeldFits, unknowns, EndsFit, ExtentFits, SlotFits, SetFits}

-- ---- a state
-- two states that do not meet share no bit
pub no_meet : (a b : ℕ) → not (meets a b) ≡ true → bit_and a b ≡ 0
no_meet a b e = eqb-true (bit_and a b) 0 (not-false _ (not-true (meets a b) e))

meets_apart : (a b : ℕ) → bit_and a b ≡ 0 → not (meets a b) ≡ true
meets_apart a b e = rw (eq-eqb _ _ e)

state_to : (p : UsageFlags) (s : ℕ) → state_fits p s ≡ true → StateFits p s
state_to p s e =
    let a = (and-eq-true_iff _ _).0 e in let b = (and-eq-true_iff _ _).0 a.0 in let c = (and-eq-true_iff _ _).0 b.0 in
    record {
      nonzero = eqb-false s 0 (not-true _ c.0);
      word = ltb-true _ _ c.1;
      compatible = not-true _ b.1;
      plain = no_meet s p.complex a.1;
    }

state_from : (p : UsageFlags) (s : ℕ) → StateFits p s → state_fits p s ≡ true
state_from p s f =
    both (both (both (false_not _ (ne_eqb s 0 f.nonzero)) (lt-ltb _ _ f.word)) (false_not _ f.compatible))
    (meets_apart s p.complex f.plain)

pub single_to : (p : UsageFlags) (s : ℕ) → single_fits p s ≡ true → SingleFits p s
single_to p s e = let a = (and-eq-true_iff _ _).0 e in record { state = state_to p s a.0; known = no_meet s p.unknown a.1 }

single_from : (p : UsageFlags) (s : ℕ) → SingleFits p s → single_fits p s ≡ true
single_from p s f = both (state_from p s f.state) (meets_apart s p.unknown f.known)

-- ---- the ranges of a mip
abbrev RangesFit : UsageFlags → ℕ → ℕ → List Range → Type 0
RangesFit p e a s = Tiles a s e × All (λ (r : Range). StateFits p r.state) s

ranges_to : (p : UsageFlags) (e a : ℕ) (s : List Range) → ranges_fit p e a s ≡ true → RangesFit p e a s
ranges_to p e a [] t = (eqb-true a e t, tt)
ranges_to p e a (r ∷ s) t =
    let x = (and-eq-true_iff _ _).0 t in let y = (and-eq-true_iff _ _).0 x.0 in let z = (and-eq-true_iff _ _).0 y.0 in
    let ih = ranges_to p e r.end s x.1 in
    ((eqb-true _ _ z.0, ltb-true _ _ z.1, ih.0), (state_to p r.state y.1, ih.1))

ranges_from : (p : UsageFlags) (e a : ℕ) (s : List Range) → RangesFit p e a s → ranges_fit p e a s ≡ true
ranges_from p e a [] t = eq-eqb a e t.0
ranges_from p e a (r ∷ s) t =
    both (both (both (eq-eqb _ _ t.0.0) (lt-ltb _ _ t.0.1)) (state_from p r.state t.1.0))
    (ranges_from p e r.end s (t.0.2, t.1.1))

mip_to : (p : UsageFlags) (e : ℕ) (s : List Range) → ranges_fit p e 0 s ≡ true → MipFits p e s
mip_to p e s t = let f = ranges_to p e 0 s t in record { tiles = f.0; states = f.1 }

mip_from : (p : UsageFlags) (e : ℕ) (s : List Range) → MipFits p e s → ranges_fit p e 0 s ≡ true
mip_from p e s f = ranges_from p e 0 s (f.tiles, f.states)

-- ---- a texture of a scope
pub held_to : (p : UsageFlags) (sh : Extent) (h : Held) → held_fits p sh h ≡ true → HeldFits p sh h
held_to p sh (single s) e = single_to p s e
held_to p sh (many ss) e =
    let a = (and-eq-true_iff _ _).0 e in
    (eqb-true _ _ a.0, every_all (MipFits p sh.layers) (ranges_fit p sh.layers 0) (mip_to p sh.layers) ss a.1)

pub held_from : (p : UsageFlags) (sh : Extent) (h : Held) → HeldFits p sh h → held_fits p sh h ≡ true
held_from p sh (single s) f = single_from p s f
held_from p sh (many ss) f =
    both (eq-eqb _ _ f.0) (all_every (MipFits p sh.layers) (ranges_fit p sh.layers 0) (mip_from p sh.layers) ss f.1)

-- ---- a texture of a tracker
same_to : (a b : Bool) → same_test a b ≡ true → a ≡ b
same_to true b e = sym e
same_to false b e = sym (not-true b e)

same_from : (a b : Bool) → a ≡ b → same_test a b ≡ true
same_from true b e = sym e
same_from false b e = false_not b (sym e)

module _ {A B : Type 0} (f : A → A → Bool) (g : A → B) where
  all₂_to : ((a b : A) → f a b ≡ true → g a ≡ g b) → (s t : List A) → all₂ f s t ≡ true → map g s ≡ map g t
  all₂_to one [] [] e = refl
  all₂_to one [] (b ∷ t) e = absurd (let z : ◌≡◌ {A = ℕ} 0 1 = cc in omega arith)
  all₂_to one (a ∷ s) [] e = absurd (let z : ◌≡◌ {A = ℕ} 0 1 = cc in omega arith)
  all₂_to one (a ∷ s) (b ∷ t) e = rw (one a b (and_left (f a b) (all₂ f s t) e), all₂_to one s t (and_right (f a b) (all₂ f s t) e))

  all₂_from : ((a b : A) → g a ≡ g b → f a b ≡ true) → (s t : List A) → map g s ≡ map g t → all₂ f s t ≡ true
  all₂_from one [] [] e = refl
  all₂_from one [] (b ∷ t) e = absurd (let z : ◌≡◌ {A = ℕ} 0 1 = cc in omega arith)
  all₂_from one (a ∷ s) [] e = absurd (let z : ◌≡◌ {A = ℕ} 0 1 = cc in omega arith)
  all₂_from one (a ∷ s) (b ∷ t) e =
      let x : g a ≡ g b = cc in let y : map g s ≡ map g t = cc in both (one a b x) (all₂_from one s t y)

unknown_to : (u : ℕ) (s t : List (List ℕ)) → same_unknown u s t ≡ true → unknowns u s ≡ unknowns u t
unknown_to u s t e =
    all₂_to (all₂ (λ a b. same_test (eqb a u) (eqb b u))) (map (λ c. eqb c u))
    (λ x y. all₂_to (λ a b. same_test (eqb a u) (eqb b u)) (λ c. eqb c u) (λ a b. same_to (eqb a u) (eqb b u)) x y) s t e

unknown_from : (u : ℕ) (s t : List (List ℕ)) → unknowns u s ≡ unknowns u t → same_unknown u s t ≡ true
unknown_from u s t e =
    all₂_from (all₂ (λ a b. same_test (eqb a u) (eqb b u))) (map (λ c. eqb c u))
    (λ x y. all₂_from (λ a b. same_test (eqb a u) (eqb b u)) (λ c. eqb c u) (λ a b. same_from (eqb a u) (eqb b u)) x y) s t e

seen_states : (sh : Extent) (h : Held) → (grid_of sh h).states ≡ subresources sh h
unfolding grid_of
seen_states sh (single s) = refl
seen_states sh (many ss) = refl

pub ends_to : (p : UsageFlags) (sh : Extent) (e : Ends Held) → ends_fit p sh e ≡ true → EndsFit p sh e
ends_to p sh e t =
    let a = (and-eq-true_iff _ _).0 t in let b = (and-eq-true_iff _ _).0 a.0 in record {
      start = held_to p sh e.start b.0;
      end = held_to p sh e.end b.1;
      agree = rw (seen_states sh e.start, seen_states sh e.end)
          (unknown_to p.unknown (subresources sh e.start) (subresources sh e.end) a.1);
    }

pub ends_from : (p : UsageFlags) (sh : Extent) (e : Ends Held) → EndsFit p sh e → ends_fit p sh e ≡ true
ends_from p sh e f =
    both (both (held_from p sh e.start f.start) (held_from p sh e.end f.end))
    (unknown_from p.unknown (subresources sh e.start) (subresources sh e.end)
    (rw (seen_states sh e.start, seen_states sh e.end) at f.agree))

-- ---- a set
extent_to : (n : Numbers) (sh : Extent) → not (extent_outside n sh) ≡ true → ExtentFits n sh
extent_to n sh e =
    let o = neither _ _ (not-true _ e) in let a = inside _ _ o.0 in let b = inside _ _ o.1 in
    record { mip = a.0; mips = a.1; layer = b.0; layers = b.1 }

not_outside : (n top : ℕ) → 0 < n → n ≤ top → outside n top ≡ false
not_outside n top a b = rw (ne_eqb n 0 (λ e. omega arith), le-ltb top n b)

extent_from : (n : Numbers) (sh : Extent) → ExtentFits n sh → not (extent_outside n sh) ≡ true
extent_from n sh f = rw (not_outside _ _ f.mip f.mips, not_outside _ _ f.layer f.layers)

module _ {H : Type 0} (fits : UsageFlags → Extent → H → Bool) (P : UsageFlags → Extent → H → Type 0)
    (to : (p : UsageFlags) (sh : Extent) (h : H) → fits p sh h ≡ true → P p sh h) (from : (p : UsageFlags) (sh : Extent) (h : H)
    → P p sh h → fits p sh h ≡ true) where
  slot_to : (n : Numbers) (p : UsageFlags) (x : Slot H) → slot_fits fits n p x ≡ true → SlotFits P n p x
  slot_to n p x e = record {
    extent = λ o. extent_to n x.extent (and_left _ (fits p x.extent x.held) (rw o at e));
    held = λ o. to p x.extent x.held (and_right (not (extent_outside n x.extent)) _ (rw o at e));
  }

  slot_from : (n : Numbers) (p : UsageFlags) (x : Slot H) → SlotFits P n p x → slot_fits fits n p x ≡ true
  slot_from n p x f =
      by_test (λ (b : Bool). b ≡ true) x.owned
      (λ o. both (extent_from n x.extent (f.extent o)) (from p x.extent x.held (f.held o))) (λ o. refl)

  set_to : (s : Set H) → set_fits fits s ≡ true → SetFits P s
  set_to s e =
      let a = (and-eq-true_iff _ _).0 e in let b = (and-eq-true_iff _ _).0 a.0 in let c = (and-eq-true_iff _ _).0 b.0 in record {
        numbers = c.0;
        flags = c.1;
        room = eqb-true _ _ b.1;
        slots = every_all (SlotFits P s.numbers s.flags) (slot_fits fits s.numbers s.flags)
            (slot_to s.numbers s.flags) s.slots a.1;
      }

  set_from_lem : (s : Set H) → SetFits P s → set_fits fits s ≡ true
  set_from_lem s f =
      both (both (both f.numbers f.flags) (eq-eqb _ _ f.room))
      (all_every (SlotFits P s.numbers s.flags) (slot_fits fits s.numbers s.flags)
      (slot_from s.numbers s.flags) s.slots f.slots)

-- ---- the two claims
pub scope_to : (s : Set Held) → scope_fits s ≡ true → SetFits HeldFits s
unfolding scope_fits
scope_to = set_to held_fits HeldFits held_to held_from

pub scope_from : (s : Set Held) → SetFits HeldFits s → scope_fits s ≡ true
unfolding scope_fits
scope_from = set_from_lem held_fits HeldFits held_to held_from

pub tracker_to : (t : Tracker Held) → tracker_fits t ≡ true → SetFits EndsFit t.set
unfolding tracker_fits
tracker_to t = set_to ends_fit EndsFit ends_to ends_from t.set

pub tracker_from : (t : Tracker Held) → SetFits EndsFit t.set → tracker_fits t ≡ true
unfolding tracker_fits
tracker_from t = set_from_lem ends_fit EndsFit ends_to ends_from t.set
