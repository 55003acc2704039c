-- Lists of checks one after another; what passed checks show of a selector, of a state and of a use; what the tests of numbers, extents
-- and flags decide; and that a number and a place tell a refusal.
use Rattle.std.specs.Prelude.{◌<◌, ◌≤◌, ◌≡◌, ◌||◌, ◌∷◌, ◌++◌, if◌then◌else◌}
use Rattle.model.specs.Prelude.{ℕ, arith, refl, sym, ap, ◌∙◌, Bool, true, false, and-eq-true_iff, false≢true, result_err, Ok, Err}
use Rattle.model.specs.Prelude.{Option, None, Some, List, [], ltb, eqb, eqb-true, eqb-false, ltb-false, not-false}
use Rattle.model.specs.declared.Refusal.TheVariants.{NumbersOutOfLimits, FlagsBreakRule, ShortRoom, NotWellFormed, LogTooShort}
use Rattle.model.specs.declared.Refusal.TheVariants.{FlagsDiffer, NoSuchIndex, ExtentOutOfLimits, ExtentDiffers, MipsEmpty}
use Rattle.model.specs.declared.Refusal.TheVariants.{MipsReversed, LayersEmpty, LayersReversed, SelectorPastExtent, StateReserved}
use Rattle.model.specs.declared.Refusal.TheVariants.{StateIncompatible, RangesOutOfOrder, LogOutOfOrder, FieldCutShort, UnknownTag}
use Rattle.model.specs.declared.Refusal.TheVariants.{UseOfWrongSize, GroupsTooDeep, PlanUnbalanced, GroupTooLong, NoFreeEntry}
use Rattle.model.specs.declared.{Extent.Extent, Refusal.Refusal, Selector.Selector, UsageFlags.UsageFlags}
use Rattle.model.specs.{Base.{All}, Flags.{meets, incompatible, same_flags}}
use Rattle.model.specs.{Representation.{mip_start, mip_end, layer_start, layer_end}, Sets.{Slot, Head, own_extent, outside}, Log.or_next}
use Rattle.model.specs.{BoolLaws.neither, ListLaws.{all_left, all_right}}
use Rattle.model.specs.Refusals.{Check, first_failing, other_extent, same_extent, number_of, accepted, Verdict, texture_checks}
use Rattle.model.specs.Refusals.{selector_checks, state_checks, single_refusal, place_of, refusal_from}

-- none of these checks failed
abbrev pub Passed : List Check → Type 0
Passed = All (λ (c : Check). c.fails ≡ false)

-- the first check of several passed, and so did the others
pub first_passed : (c : Check) (cs : List Check) → first_failing (c ∷ cs) ≡ None → (c.fails ≡ false) × (first_failing cs ≡ None)
unfolding first_failing
first_passed c cs e = go c.fails e
  where
    go : (b : Bool) → (if b then Some c.answer else first_failing cs) ≡ None → (b ≡ false) × (first_failing cs ≡ None)
    go true h = absurd (let z : ◌≡◌ {A = ℕ} 0 1 = cc in omega arith)
    go false h = (refl, h)

pub passed : (cs : List Check) → first_failing cs ≡ None → Passed cs
passed [] e = tt
passed (c ∷ cs) e = let p = first_passed c cs e in (p.0, passed cs p.1)

-- one list of checks after another
pub checks_append : (xs ys : List Check) → first_failing (xs ++ ys) ≡ or_next (first_failing xs) (first_failing ys)
unfolding first_failing
checks_append [] ys = refl
checks_append (c ∷ xs) ys = go c.fails (checks_append xs ys)
  where
    go : (b : Bool) → first_failing (xs ++ ys) ≡ or_next (first_failing xs) (first_failing ys)
        → (if b then Some c.answer else first_failing (xs ++ ys))
        ≡ or_next (if b then Some c.answer else first_failing xs) (first_failing ys)
    go true e = refl
    go false e = e

-- none of two refusals: none in either
pub none_both : (p q : Option Refusal) → or_next p q ≡ None → (p ≡ None) × (q ≡ None)
none_both None q e = (refl, e)
none_both (Some r) q e = absurd (let z : ◌≡◌ {A = ℕ} 0 1 = cc in omega arith)

-- where none of two lists of checks fails, none of either does
pub both_passed : (xs ys : List Check) → first_failing (xs ++ ys) ≡ None → (first_failing xs ≡ None) × (first_failing ys ≡ None)
both_passed xs ys e = none_both (first_failing xs) (first_failing ys) (sym (checks_append xs ys) ∙ e)

module _ {v : Verdict} (xs ys : List Check) (told : result_err v ≡ first_failing xs) where
  -- what the first list told, or else what the second does
  both_told : {w : Verdict} → v ≡ w → or_next (result_err w) (first_failing ys) ≡ first_failing (xs ++ ys)
  both_told e = ap (λ (o : Option Refusal). or_next o (first_failing ys)) (sym (ap result_err e) ∙ told) ∙ sym (checks_append xs ys)

  -- the first list was accepted: the second decides
  pub accepted_first : v ≡ Ok tt → {o : Option Refusal} → o ≡ first_failing ys → o ≡ first_failing (xs ++ ys)
  accepted_first e u = u ∙ both_told e

  -- the first list was refused: it decides
  pub refused_first : {r : Refusal} → v ≡ Err r → Some r ≡ first_failing (xs ++ ys)
  refused_first e = both_told e

-- nothing is refused
pub accepted_none : (o : Option Refusal) → accepted o ≡ true → o ≡ None
accepted_none None e = refl
accepted_none (Some r) e = absurd (false≢true e)

-- ---- a selector
-- an interval that passed both checks starts below its end
pub starts_below : (a e : ℕ) → eqb a e ≡ false → ltb e a ≡ false → a < e
starts_below a e n q = omega (arith, eqb-false a e n, ltb-false e a q)

-- a selector that names something of a texture of extent sh, and nothing past it
pub record SelectorWithin (sh : Extent) (q : Selector) : Type 0 where
  pub order : mip_start q < mip_end q
  pub in_mips : mip_end q ≤ sh.mips
  pub span : layer_start q < layer_end q
  pub in_layers : layer_end q ≤ sh.layers

-- what 16 to 19 and 11 let through is such a selector
pub selector_within : (sh : Extent) (q : Selector) → Passed (selector_checks sh (Some q)) → SelectorWithin sh q
selector_within sh q p =
    let layers = p.1.1 in let past = layers.1.1.0 in
    let ends = neither (ltb sh.mips (mip_end q)) (ltb sh.layers (layer_end q)) past in
    record {
      order = starts_below (mip_start q) (mip_end q) p.0 p.1.0;
      in_mips = ltb-false sh.mips (mip_end q) ends.0;
      span = starts_below (layer_start q) (layer_end q) layers.0 layers.1.0;
      in_layers = ltb-false sh.layers (layer_end q) ends.1;
    }

-- ---- a state
-- what 12 and 13 show of it
pub record StatePassed (p : UsageFlags) (st : ℕ) : Type 0 where
  pub nonzero : st ≡ 0 → ⊥
  pub known : meets st p.unknown ≡ false
  pub plain : meets st p.complex ≡ false
  pub fits : incompatible p st ≡ false

pub state_shown : (p : UsageFlags) (st : ℕ) → Passed (state_checks p st) → StatePassed p st
state_shown p st t =
    let o = neither (eqb st 0 || meets st p.unknown) (meets st p.complex) t.0 in
    let u = neither (eqb st 0) (meets st p.unknown) o.0 in
    record { nonzero = eqb-false st 0 u.0; known = u.1; plain = o.1; fits = t.1.0 }

-- ---- a use: its texture, its selector and its state
pub record SinglePassed (h : Head) (i : ℕ) (sh : Extent) (sel : Option Selector) (st : ℕ) : Type 0 where
  pub texture : Passed (texture_checks h i sh)
  pub selector : Passed (selector_checks sh sel)
  pub state : StatePassed h.flags st

pub single_passed : (h : Head) (i : ℕ) (sh : Extent) (sel : Option Selector) (st : ℕ) → single_refusal h i sh sel st ≡ None
    → SinglePassed h i sh sel st
single_passed h i sh sel st e =
    let c = passed _ e in let t = all_left _ (texture_checks h i sh ++ selector_checks sh sel) (state_checks h.flags st) c in
    record {
      texture = all_left _ (texture_checks h i sh) (selector_checks sh sel) t;
      selector = all_right _ (texture_checks h i sh) (selector_checks sh sel) t;
      state = state_shown h.flags st (all_right _ (texture_checks h i sh ++ selector_checks sh sel) (state_checks h.flags st) c);
    }

-- ---- numbers, extents and flags
pub inside : (n top : ℕ) → outside n top ≡ false → (0 < n) × (n ≤ top)
inside n top e = let h = neither (eqb n 0) (ltb top n) e in (omega (arith, eqb-false n 0 h.0), ltb-false top n h.1)

pub same_extent_lem : (a b : Extent) → same_extent a b ≡ true → a ≡ b
same_extent_lem a b e =
    let h = (and-eq-true_iff (eqb a.mips b.mips) (eqb a.layers b.layers)).0 e in
    let m = eqb-true a.mips b.mips h.0 in let l = eqb-true a.layers b.layers h.1 in
    λ i. record { mips = m i; layers = l i }

-- an owned slot that check 9 passed has the given extent
pub own_extent_lem : {H : Type 0} (s : Slot H) (sh : Extent) → other_extent (own_extent s) sh ≡ false → s.owned ≡ true → s.extent ≡ sh
own_extent_lem s sh e o = same_extent_lem s.extent sh (not-false (same_extent s.extent sh) (rw o at e))

pub same_flags_lem : (p q : UsageFlags) → same_flags p q ≡ true → p ≡ q
same_flags_lem p q e =
    let h = (and-eq-true_iff _ _).0 e in let g = (and-eq-true_iff _ _).0 h.0 in let f = (and-eq-true_iff _ _).0 g.0 in
    let x = eqb-true p.exclusive q.exclusive f.0 in let u = eqb-true p.uninitialized q.uninitialized f.1 in
    let c = eqb-true p.complex q.complex g.1 in let n = eqb-true p.unknown q.unknown h.1 in
    λ i. record { exclusive = x i; uninitialized = u i; complex = c i; unknown = n i }

-- ---- numbers of refusals
-- no two refusals have one number and one place: the two tell the refusal
pub refusal_told : (r : Refusal) → refusal_from (number_of r) (place_of r) ≡ r
refusal_told NumbersOutOfLimits = refl
refusal_told FlagsBreakRule = refl
refusal_told ShortRoom = refl
refusal_told NotWellFormed = refl
refusal_told LogTooShort = refl
refusal_told FlagsDiffer = refl
refusal_told (NoSuchIndex i) = refl
refusal_told (ExtentOutOfLimits i) = refl
refusal_told (ExtentDiffers i) = refl
refusal_told MipsEmpty = refl
refusal_told MipsReversed = refl
refusal_told LayersEmpty = refl
refusal_told LayersReversed = refl
refusal_told SelectorPastExtent = refl
refusal_told StateReserved = refl
refusal_told StateIncompatible = refl
refusal_told RangesOutOfOrder = refl
refusal_told LogOutOfOrder = refl
refusal_told FieldCutShort = refl
refusal_told UnknownTag = refl
refusal_told UseOfWrongSize = refl
refusal_told GroupsTooDeep = refl
refusal_told PlanUnbalanced = refl
refusal_told GroupTooLong = refl
refusal_told NoFreeEntry = refl

-- "10 is never given again": it is no refusal's number
pub never_ten : (r : Refusal) → number_of r ≡ 10 → ⊥
never_ten NumbersOutOfLimits e = omega (arith, e)
never_ten FlagsBreakRule e = omega (arith, e)
never_ten ShortRoom e = omega (arith, e)
never_ten NotWellFormed e = omega (arith, e)
never_ten LogTooShort e = omega (arith, e)
never_ten FlagsDiffer e = omega (arith, e)
never_ten (NoSuchIndex i) e = omega (arith, e)
never_ten (ExtentOutOfLimits i) e = omega (arith, e)
never_ten (ExtentDiffers i) e = omega (arith, e)
never_ten MipsEmpty e = omega (arith, e)
never_ten MipsReversed e = omega (arith, e)
never_ten LayersEmpty e = omega (arith, e)
never_ten LayersReversed e = omega (arith, e)
never_ten SelectorPastExtent e = omega (arith, e)
never_ten StateReserved e = omega (arith, e)
never_ten StateIncompatible e = omega (arith, e)
never_ten RangesOutOfOrder e = omega (arith, e)
never_ten LogOutOfOrder e = omega (arith, e)
never_ten FieldCutShort e = omega (arith, e)
never_ten UnknownTag e = omega (arith, e)
never_ten UseOfWrongSize e = omega (arith, e)
never_ten GroupsTooDeep e = omega (arith, e)
never_ten PlanUnbalanced e = omega (arith, e)
never_ten GroupTooLong e = omega (arith, e)
never_ten NoFreeEntry e = omega (arith, e)
