-- The rules for one subresource keep its state well formed, and so do the grid's merge, insert and update.
use Rattle.model.specs.Prelude.{ℕ, zero, suc, arith, refl, sym, ◌∙◌, Bool, true, false, not, and-eq-true_iff, Option, None, Some, List, []}
use Rattle.model.specs.Prelude.{map, ltb, eqb, bit_and, bit_or, or_lt, replicate, eqb-true, eqb-false, ltb-true, not-true}
use Rattle.model.specs.declared.{Extent.Extent, Selector.Selector, UsageFlags.UsageFlags}
use Rattle.model.specs.Base.{Stop, ruled, or_keep, walk₂, zip₂, zip₃, All, AllO}
use Rattle.model.specs.{Flags.{incompatible, meets, one_bit, is_bit, apart, flags_fit}, Representation.in_mips, StateRules.less}
use Rattle.model.specs.{ListLaws.{all_join, all_replicate, unlike_lists}, BoolLaws.by_test}
use Rattle.std.specs.Prelude.{◌-◌, ◌<◌, ◌≡◌, ◌&&◌, ◌∷◌, if◌then◌else◌}
use Rattle.std.specs.Int.Count.{ones_in}
use Rattle.agreement.specs.Grid.{Grid, Named, SubresourceConflict, without, single_union, many_union, end_state, start_state, unite_state}
use Rattle.agreement.specs.Grid.{unite_states, named_end, named_start, named_or, grid_merge, grid_insert, tab, named_row, named_use}
use Rattle.agreement.specs.{Grid.named_all, Fits.{StateFits, unknowns}, Decides.no_meet}
use Rattle.agreement.proofs.{WalkLaws.onward_all, RulesAgree.less_without}
use Rattle.agreement.proofs.GridLaws.{GridAll, grid_map, grid_everywhere, grid_zip, grid_back}
use Rattle.usage.specs.BitLaws.{and_or, or_zero, split_bits, bit_nonzero, bits_apart}

-- ---- usage flags that open
pub record FlagFacts (p : UsageFlags) : Type 0 where
  pub unknown_bit : ones_in 16 p.unknown ≡ 1
  pub unknown_word : p.unknown < 65536
  pub complex_bit : ones_in 16 p.complex ≡ 1
  pub complex_word : p.complex < 65536
  pub unlike : p.complex ≡ p.unknown → ⊥
  pub outside : bit_and p.unknown p.exclusive ≡ 0

-- the third, the sixth and the last of eight
of_eight : (a b c d e f g h : Bool) → a && b && c && d && e && f && g && h ≡ true → (c ≡ true) × (f ≡ true) × (h ≡ true)
of_eight a b c d e f g h q =
    let x = (and-eq-true_iff (a && b && c && d && e && f && g) h).0 q in
    let y = (and-eq-true_iff (a && b && c && d && e && f) g).0 x.0 in let z = (and-eq-true_iff (a && b && c && d && e) f).0 y.0 in
    let w = (and-eq-true_iff (a && b && c && d) e).0 z.0 in let v = (and-eq-true_iff (a && b && c) d).0 w.0 in
    let u = (and-eq-true_iff (a && b) c).0 v.0 in
    (u.1, z.1, x.1)

pub sure_flags : (p : UsageFlags) → flags_fit p ≡ true → FlagFacts p
unfolding flags_fit
sure_flags p e =
    let a = (and-eq-true_iff (is_bit p.unknown) (apart p)).0 e in
    let u = (and-eq-true_iff (one_bit p.unknown) (ltb p.unknown 65536)).0 a.0 in
    let t = of_eight (ltb p.exclusive 65536) (is_bit p.uninitialized) (is_bit p.complex) (not (eqb p.uninitialized p.complex))
    (not (eqb p.uninitialized p.unknown))
    (not (eqb p.complex p.unknown)) (not (meets p.complex p.exclusive)) (not (meets p.unknown p.exclusive)) a.1 in
    let c = (and-eq-true_iff (one_bit p.complex) (ltb p.complex 65536)).0 t.0 in
    record {
      unknown_bit = eqb-true _ _ u.0;
      unknown_word = ltb-true _ _ u.1;
      complex_bit = eqb-true _ _ c.0;
      complex_word = ltb-true _ _ c.1;
      unlike = eqb-false p.complex p.unknown (not-true _ t.1);
      outside = no_meet p.unknown p.exclusive t.2;
    }

compatible_outside : (p : UsageFlags) (s : ℕ) → bit_and s p.exclusive ≡ 0 → incompatible p s ≡ false
unfolding incompatible
compatible_outside p s e = rw e

unknown_fits : (p : UsageFlags) → FlagFacts p → StateFits p p.unknown
unknown_fits p s = record {
  nonzero = bit_nonzero 16 p.unknown s.unknown_bit;
  word = s.unknown_word;
  compatible = compatible_outside p p.unknown s.outside;
  plain = bits_apart 16 p.unknown p.complex s.unknown_bit s.complex_bit s.unknown_word
      s.complex_word (λ e. s.unlike (sym e));
}

-- ---- the rules for one subresource
union_fits : (p : UsageFlags) (a b : ℕ) → StateFits p a → StateFits p b → incompatible p (bit_or a b) ≡ false → StateFits p (bit_or a b)
union_fits p a b x y c = record {
  nonzero = λ e. x.nonzero (or_zero a b e).0;
  word = or_lt 16 a b x.word y.word;
  compatible = c;
  plain = and_or a b p.complex ∙ rw (x.plain, y.plain);
}

single_state_fits : (p : UsageFlags) (c new u : ℕ) → StateFits p c → StateFits p new → single_union p c new ≡ Some u → StateFits p u
unfolding single_union
single_state_fits p c new u x y e = go (incompatible p (bit_or c new)) refl e
  where
    go : (b : Bool) → incompatible p (bit_or c new) ≡ b → (if b then None else Some (bit_or c new)) ≡ Some u → StateFits p u
    go true q e = absurd (let z : ◌≡◌ {A = ℕ} 0 1 = cc in omega arith)
    go false q e = let h : bit_or c new ≡ u = cc in rw h at (union_fits p c new x y q)

less_fits : (p : UsageFlags) (s : ℕ) → s < 65536 → bit_and s p.complex ≡ 0 → (without p.unknown s ≡ 0 → ⊥)
    → incompatible p (without p.unknown s) ≡ false → StateFits p (without p.unknown s)
unfolding less
less_fits p s w k d c = record {
  nonzero = d;
  word = rw (less_without p.unknown s) (omega arith);
  compatible = c;
  plain = rw (less_without p.unknown s)
      (or_zero (bit_and (less p.unknown s) p.complex) (bit_and (bit_and p.unknown s) p.complex)
      (sym (and_or (less p.unknown s) (bit_and p.unknown s) p.complex) ∙ rw (split_bits s p.unknown) k)).0;
}

many_fits : (p : UsageFlags) (c new u : ℕ) → StateFits p c → StateFits p new → many_union p c new ≡ Some u → StateFits p u
unfolding many_union
many_fits p c new u x y e = go (incompatible p w) refl (eqb w 0) refl e
  where
    w : ℕ
    w = without p.unknown (bit_or c new)

    go : (b : Bool) → incompatible p w ≡ b → (z : Bool) → eqb w 0 ≡ z
        → (if b then None else if z then Some c else Some w) ≡ Some u → StateFits p u
    go true q z r e = absurd (let z : ◌≡◌ {A = ℕ} 0 1 = cc in omega arith)
    go false q true r e = let h : c ≡ u = cc in rw h at x
    go false q false r e = let h : w ≡ u = cc in
        rw h at (less_fits p (bit_or c new) (or_lt 16 c new x.word y.word) (and_or c new p.complex
        ∙ rw (x.plain, y.plain)) (eqb-false w 0 r) q)

-- ---- walks and zips over grids
pub walk₂_all : {A B C : Type 0} (P : A → Type 0) (Q : B → Type 0) (f : ℕ → A → B → Stop C A)
    → ((k : ℕ) (a : A) (b : B) → P a → Q b → P (f k a b).value)
    → (k : ℕ) (s : List A) (t : List B) → All P s → All Q t → All P (walk₂ f k s t).value
walk₂_all P Q f h k [] t a b = tt
walk₂_all P Q f h k (x ∷ s) [] a b = a
walk₂_all P Q f h k (x ∷ s) (y ∷ t) a b =
    onward_all P (f k x y).value (f k x y).conflict s (walk₂ f (suc k) s t) (h k x y a.0 b.0) a.1
    (walk₂_all P Q f h (suc k) s t a.1 b.1)

zip₃_all : {A B D E : Type 0} (P : A → Type 0) (Q : B → Type 0) (R : D → Type 0) (S : E → Type 0) (f : A → B → D → E)
    → ((a : A) (b : B) (d : D) → P a → Q b → R d → S (f a b d))
    → (s : List A) (t : List B) (v : List D) → All P s → All Q t → All R v → All S (zip₃ f s t v)
zip₃_all P Q R S f h [] t v a b d = tt
zip₃_all P Q R S f h (x ∷ s) [] v a b d = tt
zip₃_all P Q R S f h (x ∷ s) (y ∷ t) [] a b d = tt
zip₃_all P Q R S f h (x ∷ s) (y ∷ t) (z ∷ v) a b d = (h x y z a.0 b.0 d.0, zip₃_all P Q R S f h s t v a.1 b.1 d.1)

all_tab : {A : Type 0} (P : A → Type 0) (f : ℕ → A) (k n : ℕ) → ((j : ℕ) → P (f j)) → All P (tab f k n)
all_tab P f k zero h = tt
all_tab P f k (suc n) h = (h k, all_tab P f (suc k) n h)

module _ (S : ℕ → Type 0) (f : ℕ → ℕ → Option ℕ) (keeps : (c new u : ℕ) → S c → S new → f c new ≡ Some u → S u) where
  state_keeps : (m l c : ℕ) (o : Option ℕ) → S c → AllO S o → S (unite_state f m l c o).value
  state_keeps m l c None x y = x
  state_keeps m l c (Some new) x y = go (f c new) refl
    where
      go : (o : Option ℕ) → f c new ≡ o → S (ruled {C = SubresourceConflict} c (record { mip = m; layer = l; old = c; new = new }) o).value
      go None e = x
      go (Some u) e = keeps c new u x y e

  states_keep : (g : List (List ℕ)) (n : List (List (Option ℕ))) → GridAll S g → GridAll (AllO S) n → GridAll S (unite_states f g n).value
  states_keep g n a b =
      walk₂_all (All S) (All (AllO S)) (λ m. walk₂ (unite_state f m) 0)
      (λ k r q x y. walk₂_all S (AllO S) (unite_state f k) (state_keeps k) 0 r q x y) 0 g n a b

-- ---- the grid's merge, insert and update
abbrev pub StatesFit : UsageFlags → List (List ℕ) → Type 0
StatesFit p g = GridAll (StateFits p) g

abbrev pub NamedFit : UsageFlags → List (List (Option ℕ)) → Type 0
NamedFit p g = GridAll (AllO (StateFits p)) g

pub merge_fits : (p : UsageFlags) (sh : Extent) (s : Grid) (n : Named) → StatesFit p s.states → NamedFit p n.states
    → StatesFit p (grid_merge p sh s n).value.states
unfolding grid_merge
merge_fits p sh s n a b =
    by_test (λ (w : Stop SubresourceConflict Grid). StatesFit p w.value.states) s.single
    (λ e. kept (unite_states (single_union p) s.states n.states).conflict)
    (λ e. states_keep (StateFits p) (many_union p) (many_fits p) s.states n.states a b)
  where
    kept : (o : Option SubresourceConflict)
        → StatesFit p (or_keep o s
        (record { single = n.single; states = (unite_states (single_union p) s.states n.states).value })).value.states
    kept None = states_keep (StateFits p) (single_union p) (single_state_fits p) s.states n.states a b
    kept (Some c) = a

or_else_fits : (p : UsageFlags) → FlagFacts p → (o : Option ℕ) → AllO (StateFits p) o → StateFits p (named_or p.unknown o)
or_else_fits p s None t = unknown_fits p s
or_else_fits p s (Some x) t = t

pub insert_fits : (p : UsageFlags) (sh : Extent) (n : Named) → FlagFacts p → NamedFit p n.states
    → StatesFit p (grid_insert p sh n).states
insert_fits p sh n s t =
    grid_map (AllO (StateFits p)) (StateFits p) (named_or p.unknown) (or_else_fits p s) n.states t

end_fits : (p : UsageFlags) (c : ℕ) (o : Option ℕ) → StateFits p c → AllO (StateFits p) o → StateFits p (named_end p c o)
unfolding end_state
end_fits p c None x y = x
end_fits p c (Some new) x y = by_test (StateFits p) (not (eqb new p.unknown)) (λ b. y) (λ b. x)

start_fits : (p : UsageFlags) (s c : ℕ) (o : Option ℕ) → StateFits p s → StateFits p c → AllO (StateFits p) o
    → StateFits p (named_start p s c o)
unfolding start_state
start_fits p s c None w x y = w
start_fits p s c (Some new) w x y = by_test (StateFits p) (not (eqb new p.unknown) && eqb c p.unknown) (λ b. y) (λ b. w)

pub update_end_fits : (p : UsageFlags) (e : List (List ℕ)) (n : List (List (Option ℕ))) → StatesFit p e → NamedFit p n
    → StatesFit p (zip₂ (zip₂ (named_end p)) e n)
update_end_fits p e n a b =
    grid_zip (StateFits p) (AllO (StateFits p)) (StateFits p) (named_end p) (end_fits p) e n a b

pub update_start_fits : (p : UsageFlags) (s e : List (List ℕ)) (n : List (List (Option ℕ))) → StatesFit p s → StatesFit p e → NamedFit p n
    → StatesFit p (zip₃ (zip₃ (named_start p)) s e n)
update_start_fits p s e n a b c =
    zip₃_all (All (StateFits p)) (All (StateFits p)) (All (AllO (StateFits p))) (All (StateFits p)) (zip₃ (named_start p))
    (λ r q v x y z. zip₃_all (StateFits p) (StateFits p) (AllO (StateFits p)) (StateFits p) (named_start p)
    (start_fits p) r q v x y z) s e n a b c

-- ---- start and end stay alike in their UNKNOWN subresources
state_alike : (p : UsageFlags) (s e : ℕ) (o : Option ℕ) → eqb s p.unknown ≡ eqb e p.unknown
    → eqb (named_start p s e o) p.unknown ≡ eqb (named_end p e o) p.unknown
unfolding start_state end_state
state_alike p s e None h = h
state_alike p s e (Some new) h = go (eqb new p.unknown) refl (eqb e p.unknown) refl
  where
    go : (a : Bool) → eqb new p.unknown ≡ a → (b : Bool) → eqb e p.unknown ≡ b
        → eqb (if not a && b then new else s) p.unknown ≡ eqb (if not a then new else e) p.unknown
    go true q b r = h
    go false q true r = refl
    go false q false r = h ∙ r ∙ sym q

row_alike : (p : UsageFlags) (s e : List ℕ) (n : List (Option ℕ)) → map (λ c. eqb c p.unknown) s ≡ map (λ c. eqb c p.unknown) e
    → map (λ c. eqb c p.unknown) (zip₃ (named_start p) s e n) ≡ map (λ c. eqb c p.unknown) (zip₂ (named_end p) e n)
row_alike p [] [] n h = refl
row_alike p [] (y ∷ e) n h = absurd (unlike_lists _ _ h)
row_alike p (x ∷ s) [] n h = absurd (unlike_lists _ _ (sym h))
row_alike p (x ∷ s) (y ∷ e) [] h = refl
row_alike p (x ∷ s) (y ∷ e) (z ∷ n) h =
    let a : eqb x p.unknown ≡ eqb y p.unknown = cc in
    let b : map (λ c. eqb c p.unknown) s ≡ map (λ c. eqb c p.unknown) e = cc in
    let c = state_alike p x y z a in let d = row_alike p s e n b in λ i. c i ∷ d i

pub grid_alike : (p : UsageFlags) (s e : List (List ℕ)) (n : List (List (Option ℕ))) → unknowns p.unknown s ≡ unknowns p.unknown e
    → unknowns p.unknown (zip₃ (zip₃ (named_start p)) s e n) ≡ unknowns p.unknown (zip₂ (zip₂ (named_end p)) e n)
grid_alike p [] [] n h = refl
grid_alike p [] (y ∷ e) n h = absurd (unlike_lists _ _ h)
grid_alike p (x ∷ s) [] n h = absurd (unlike_lists _ _ (sym h))
grid_alike p (x ∷ s) (y ∷ e) [] h = refl
grid_alike p (x ∷ s) (y ∷ e) (z ∷ n) h =
    let a : map (λ c. eqb c p.unknown) x ≡ map (λ c. eqb c p.unknown) y = cc in
    let b : unknowns p.unknown s ≡ unknowns p.unknown e = cc in
    let c = row_alike p x y z a in let d = grid_alike p s e n b in λ i. c i ∷ d i

-- ---- what is handed in
pub use_all : (P : ℕ → Type 0) (sh : Extent) (sel : Option Selector) (st : ℕ) → P st → GridAll (AllO P) (named_use sh sel st).states
use_all P sh None st h = grid_everywhere (AllO P) sh (Some st) h
use_all P sh (Some q) st h = all_tab (All (AllO P)) (named_row sh q st) 0 sh.mips
    (λ j. by_test (All (AllO P)) (in_mips q j)
    (λ b. all_join _ (replicate q.layers.start.0 None) _ (all_replicate _ None q.layers.start.0 tt)
    (all_join _ (replicate (q.layers.end.0 - q.layers.start.0) (Some st)) _
    (all_replicate _ (Some st) (q.layers.end.0 - q.layers.start.0) h) (all_replicate _ None (sh.layers - q.layers.end.0) tt)))
    (λ b. all_replicate _ None sh.layers tt))

pub use_fits_lem : (p : UsageFlags) (sh : Extent) (sel : Option Selector) (st : ℕ) → StateFits p st
    → NamedFit p (named_use sh sel st).states
use_fits_lem p sh sel st h = use_all (StateFits p) sh sel st h

pub pass_fits : (p : UsageFlags) (s : Grid) → StatesFit p s.states → NamedFit p (named_all s).states
pass_fits p s t = grid_map (StateFits p) (AllO (StateFits p)) Some (λ c x. x) s.states t

pub insert_back : (u : ℕ) (g : List (List ℕ)) → map (map (named_or u)) (map (map Some) g) ≡ g
insert_back u = grid_back Some (named_or u) (λ c. refl)
