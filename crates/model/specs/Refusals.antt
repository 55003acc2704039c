-- 01, "Turned away": each check is whether it fails, with the refusal that is then the answer, in the table's order.
use Rattle.std.specs.Prelude.{◌&&◌, ◌||◌, ◌∷◌, ◌++◌, if◌then◌else◌}
use Rattle.model.specs.Prelude.{ℕ, Bool, true, false, not, Option, None, Some, Result, List, [], ltb, eqb, get_or}
use Rattle.model.specs.declared.Refusal.TheVariants.{NumbersOutOfLimits, FlagsBreakRule, ShortRoom, NotWellFormed, LogTooShort}
use Rattle.model.specs.declared.Refusal.TheVariants.{FlagsDiffer, NoSuchIndex, ExtentOutOfLimits, ExtentDiffers, MipsEmpty}
use Rattle.model.specs.declared.Refusal.TheVariants.{MipsReversed, LayersEmpty, LayersReversed, SelectorPastExtent, StateReserved}
use Rattle.model.specs.declared.Refusal.TheVariants.{StateIncompatible, RangesOutOfOrder, LogOutOfOrder, FieldCutShort, UnknownTag}
use Rattle.model.specs.declared.Refusal.TheVariants.{UseOfWrongSize, GroupsTooDeep, PlanUnbalanced, GroupTooLong, NoFreeEntry}
use Rattle.model.specs.declared.{UsageFlags.UsageFlags, Extent.Extent, Selector.Selector, TrackerIndex.TrackerIndex, Refusal.Refusal}
use Rattle.model.specs.Base.{each, each_at}
use Rattle.model.specs.{Flags.{meets, incompatible, flags_fit, same_flags}, Representation.{mip_start, mip_end, layer_start, layer_end}}
use Rattle.model.specs.Sets.{Numbers, Head, Opening, outside, numbers_fit, capacity}

-- a position as the code's `TrackerIndex`
abbrev pub tracker_index : ℕ → TrackerIndex
tracker_index i = record { 0 = i }

-- ---- 01's number and place of a refusal
-- the table's column "No."; 10 is no refusal's: "16, 17, 18, 19 in that order, at 10's place; 10 is never given again"; 31 is request 14's,
-- 20 to 25 are request 08's
abbrev pub number_of : Refusal → ℕ
number_of NumbersOutOfLimits = 1
number_of FlagsBreakRule = 2
number_of ShortRoom = 3
number_of NotWellFormed = 4
number_of LogTooShort = 5
number_of FlagsDiffer = 6
number_of (NoSuchIndex i) = 7
number_of (ExtentOutOfLimits i) = 8
number_of (ExtentDiffers i) = 9
number_of MipsEmpty = 16
number_of MipsReversed = 17
number_of LayersEmpty = 18
number_of LayersReversed = 19
number_of SelectorPastExtent = 11
number_of StateReserved = 12
number_of StateIncompatible = 13
number_of RangesOutOfOrder = 14
number_of LogOutOfOrder = 31
number_of FieldCutShort = 20
number_of UnknownTag = 21
number_of UseOfWrongSize = 22
number_of GroupsTooDeep = 23
number_of PlanUnbalanced = 24
number_of GroupTooLong = 25
number_of NoFreeEntry = 15

-- "the index for 7 to 9, otherwise 0"
abbrev pub place_of : Refusal → ℕ
place_of NumbersOutOfLimits = 0
place_of FlagsBreakRule = 0
place_of ShortRoom = 0
place_of NotWellFormed = 0
place_of LogTooShort = 0
place_of FlagsDiffer = 0
place_of (NoSuchIndex i) = i.0
place_of (ExtentOutOfLimits i) = i.0
place_of (ExtentDiffers i) = i.0
place_of MipsEmpty = 0
place_of MipsReversed = 0
place_of LayersEmpty = 0
place_of LayersReversed = 0
place_of SelectorPastExtent = 0
place_of StateReserved = 0
place_of StateIncompatible = 0
place_of RangesOutOfOrder = 0
place_of LogOutOfOrder = 0
place_of FieldCutShort = 0
place_of UnknownTag = 0
place_of UseOfWrongSize = 0
place_of GroupsTooDeep = 0
place_of PlanUnbalanced = 0
place_of GroupTooLong = 0
place_of NoFreeEntry = 0

-- ---- The refusal that a number and a place tell
-- the rows of the table, with a place
abbrev pub rows : ℕ → List Refusal
rows i =
    NumbersOutOfLimits ∷ FlagsBreakRule ∷ ShortRoom ∷ NotWellFormed ∷ LogTooShort ∷ FlagsDiffer
    ∷ NoSuchIndex (tracker_index i) ∷ ExtentOutOfLimits (tracker_index i) ∷ ExtentDiffers (tracker_index i)
    ∷ MipsEmpty ∷ MipsReversed ∷ LayersEmpty ∷ LayersReversed ∷ SelectorPastExtent ∷ StateReserved ∷ StateIncompatible
    ∷ RangesOutOfOrder ∷ LogOutOfOrder ∷ FieldCutShort ∷ UnknownTag ∷ UseOfWrongSize ∷ GroupsTooDeep ∷ PlanUnbalanced ∷ GroupTooLong
    ∷ NoFreeEntry ∷ []

-- the first of some rows with number n; NotWellFormed stands in where none has it
abbrev pub numbered : ℕ → List Refusal → Refusal
numbered n [] = NotWellFormed
numbered n (r ∷ rs) = if eqb (number_of r) n then r else numbered n rs

-- the row with that number
abbrev pub refusal_from : ℕ → ℕ → Refusal
refusal_from n i = numbered n (rows i)

-- what checks tell: that all pass, or the refusal of the first that fails
abbrev pub Verdict : Type 0
Verdict = Result (Unit {0}) Refusal

-- ---- "Checked top to bottom."
-- a row of the table at a call: whether it fails, and the refusal that is then the answer
pub record Check : Type 0 where
  pub fails : Bool
  pub answer : Refusal

-- such a row, of its two parts
abbrev pub check : Bool → Refusal → Check
check b r = record { fails = b; answer = r }

-- the answer of the first row that fails, if one does
unfoldable pub first_failing : List Check → Option Refusal
first_failing [] = None
first_failing (c ∷ cs) = if c.fails then Some c.answer else first_failing cs

-- ---- 1, 2, 3: opening
-- "N, M or W is outside its limits", "the palette breaks its rule", "the lent room is short"
abbrev pub opening_checks : Opening → List Check
opening_checks o =
    check (not (numbers_fit o.numbers)) NumbersOutOfLimits
    ∷ check (not (flags_fit o.flags)) FlagsBreakRule
    ∷ check (ltb o.room (capacity o.numbers)) ShortRoom
    ∷ []

-- why an opening is turned away, if it is
unfoldable pub opening_refusal : Opening → Option Refusal
unfolding flags_fit first_failing
opening_refusal o = first_failing (opening_checks o)

-- nothing is refused
abbrev pub accepted : Option Refusal → Bool
accepted None = true
accepted (Some r) = false

-- an opening that is not turned away
abbrev pub opens : Opening → Bool
opens o = accepted (opening_refusal o)

-- ---- 6: two sets
-- "their palettes differ"
abbrev pub flags_check : Head → Head → Check
flags_check into given = check (not (same_flags into.flags given.flags)) FlagsDiffer

-- ---- 7, 8, 9: a texture
-- two extents are the same
abbrev pub same_extent : Extent → Extent → Bool
same_extent a b = eqb a.mips b.mips && eqb a.layers b.layers

-- "the index is owned with another shape"
abbrev pub other_extent : Option Extent → Extent → Bool
other_extent None sh = false
other_extent (Some own) sh = not (same_extent own sh)

-- "mips are not 1 to M, or layers not 1 to W"
abbrev pub extent_outside : Numbers → Extent → Bool
extent_outside n sh = outside sh.mips n.mips || outside sh.layers n.layers

-- "the index is not below N", and then 8 and 9
abbrev pub texture_checks : Head → ℕ → Extent → List Check
texture_checks h i sh =
    check (not (ltb i h.numbers.textures)) (NoSuchIndex (tracker_index i))
    ∷ check (extent_outside h.numbers sh) (ExtentOutOfLimits (tracker_index i))
    ∷ check (other_extent (get_or h.extents i None) sh) (ExtentDiffers (tracker_index i))
    ∷ []

-- ---- 16 to 19, 11: a selector, if one is given
-- an interval "of no length", then one "reversed", with the refusal of each
abbrev pub interval_checks : Refusal → Refusal → ℕ → ℕ → List Check
interval_checks empty reversed start end = check (eqb start end) empty ∷ check (ltb end start) reversed ∷ []

-- 16, 17: "mips of no length, mips reversed"
abbrev pub mips_checks : ℕ → ℕ → List Check
mips_checks = interval_checks MipsEmpty MipsReversed

-- 18, 19: "layers of no length, layers reversed"
abbrev pub layers_checks : ℕ → ℕ → List Check
layers_checks = interval_checks LayersEmpty LayersReversed

-- "an end is past the shape"
abbrev pub selector_past : Extent → Selector → Bool
selector_past sh q = ltb sh.mips (mip_end q) || ltb sh.layers (layer_end q)

-- "16, 17, 18, 19 in that order", and then 11; nothing is checked where no selector is given
abbrev pub selector_checks : Extent → Option Selector → List Check
selector_checks sh None = []
selector_checks sh (Some q) =
    mips_checks (mip_start q) (mip_end q) ++ layers_checks (layer_start q) (layer_end q)
    ++ (check (selector_past sh q) SelectorPastExtent ∷ [])

-- ---- 12, 13: a state
-- "it is zero or has UNKNOWN or COMPLEX"
abbrev pub state_reserved : UsageFlags → ℕ → Bool
state_reserved p st = eqb st 0 || meets st p.unknown || meets st p.complex

-- 12, and then "it is incompatible"
abbrev pub state_checks : UsageFlags → ℕ → List Check
state_checks p st = check (state_reserved p st) StateReserved ∷ check (incompatible p st) StateIncompatible ∷ []

-- ---- A call on one texture
-- 7 to 13, with 16 to 19 in 10's place: of `merge_single` and of `set_single_lem`
abbrev pub single_refusal : Head → ℕ → Extent → Option Selector → ℕ → Option Refusal
single_refusal h i sh sel st = first_failing (texture_checks h i sh ++ selector_checks sh sel ++ state_checks h.flags st)

-- ---- Calls over a whole set
-- 7, 8, 9 of an index, if the given set owns it
abbrev pub owned_checks : Head → ℕ → Option Extent → List Check
owned_checks h i None = []
owned_checks h i (Some sh) = texture_checks h i sh

-- 6, and then "7, 8, 9 for each owned index, ascending, before any change"
abbrev pub set_refusal : Head → Head → Option Refusal
set_refusal into given = first_failing (flags_check into given ∷ each_at (owned_checks into) 0 given.extents)

-- ---- The sparse call
-- "an index not below the scope's N is 7; one the scope does not own is passed over; an owned one is checked against the tracker"
abbrev pub sparse_checks : Head → Head → ℕ → List Check
sparse_checks into given i = check (not (ltb i given.numbers.textures)) (NoSuchIndex (tracker_index i))
    ∷ owned_checks into i (get_or given.extents i None)

-- 6, and then the listed indices "in list order, also before any change"
abbrev pub sparse_refusal : Head → Head → List ℕ → Option Refusal
sparse_refusal into given is = first_failing (flags_check into given ∷ each (sparse_checks into given) is)
