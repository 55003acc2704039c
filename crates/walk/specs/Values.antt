-- What is passed by value: a type with its laws, and a value of it.
--     Data         a type by value: how a value is spelled, and that it owns only facts
--     number, struct, variant, UnitOf    of an integer, of a declared struct, of a declared enum, of no result.        Valid        that x is a value of it
--     fits_in      its spelling is of the type.        owned_by     what it owns is had for nothing
--     Value        a value of such a type.        word, half       of a usize, of a u32
-- Assumes `Logic`.
use Rattle.std.specs.Prelude.{◌≡◌, refl, ℕ, ◌<◌, ◌^◌, List, [], ◌∷◌, T}
use Rattle.std.proofs.Common.{subst}
use seplogic.Ra.Ura.{Ura}
use mir.Syntax.{Width, w32, w64, Ty}
use mir.Val.{Val, vunit, vint, has_ty, WT}
use types.Logic.{Logic}
use types.Kit.{Item, ‵, Goal, Step}
use denote.Exit.{Kept, unchanged}
use Rattle.std.specs.Borrow.{RattleType, unit}
use denote.Laws.{Is, Tells, Makes, Lawful, Typed}
use denote.Plain.{UInt, uint_Tells, uint_Makes, uint_Lawful, Nothing-Tells, Nothing-Makes, Nothing-Lawful}
use denote.Steps.{owned}
use denote.Struct.Declared as struct_of
use denote.Struct.Struct.{Plains}
use denote.Struct.Laws as SL
use denote.Enum.Declared as enum_of
use denote.Enum.Enum.{Plainss, Few}
use denote.Enum.Laws as EL

-- ---- types
pub record Data (R : RattleType) : Type 2 where
  pub val : R.Denot → Val
  pub tells : Tells R (Is R) (λ x. val x ∷ [])
  pub makes : (M : Type 1) (𝓤 : Ura M) (𝓛 : Logic 𝓤) → Makes 𝓛 R (Is R)
  pub lawful : (M : Type 1) (𝓤 : Ura M) (𝓛 : Logic 𝓤) → Lawful 𝓛 R
  pub still : (k : Kept) → R.exit k ≡ unchanged

abbrev pub number : (w : Width) → Data (UInt w)
number w = record { val = vint w; tells = uint_Tells w; makes = λ M 𝓤 𝓛. uint_Makes 𝓛 w; lawful = λ M 𝓤 𝓛. uint_Lawful 𝓛 w; still = λ k. refl }

abbrev pub struct : (T : struct_of.Declared) (L : SL.Laws T) → Plains (struct_of.fields T) → SL.Copyables T.parts → Data (struct_of.row T)
struct T L pl cs = record { val = SL.val T L; tells = SL.tells T L; makes = λ M 𝓤 𝓛. SL.makes T pl 𝓛; lawful = λ M 𝓤 𝓛. SL.lawful T L 𝓛; still = SL.still T cs }

abbrev pub variant : (T : enum_of.Declared) (L : EL.Laws T) → Plainss (enum_of.variants T) → EL.Copyabless T.parts → Few (enum_of.shape T) → Data (enum_of.row T)
variant T L pl cs few = record { val = EL.val T L; tells = EL.tells T L; makes = λ M 𝓤 𝓛. EL.makes T pl 𝓛; lawful = λ M 𝓤 𝓛. EL.lawful T L 𝓛 few; still = EL.still T cs }

-- what a function returns that returns nothing
abbrev pub UnitOf : Data unit
UnitOf = record { val = λ _. vunit; tells = Nothing-Tells; makes = λ M 𝓤 𝓛. Nothing-Makes 𝓛; lawful = λ M 𝓤 𝓛. Nothing-Lawful 𝓛; still = λ k. refl }

-- a value's spelling is of the type's one MIR type
pub fits_in : {M : Type 1} {𝓤 : Ura M} (𝓛 : Logic 𝓤) {R : RattleType} (D : Data R) (x : R.Denot) → Is R x (D.val x ∷ []) → {τ : Ty} → R.mir ≡ τ ∷ [] → T (has_ty τ (D.val x)) × WT (D.val x)
fits_in {M} {𝓤} 𝓛 D x is m = (subst (λ (τs : List Ty). Typed τs (D.val x ∷ [])) m ((D.lawful M 𝓤 𝓛).typed x (D.val x ∷ []) is)).0

-- ---- values
-- that x is a value of the type, at its spelling
abbrev pub Valid : {R : RattleType} (D : Data R) → R.Denot → Type 0
Valid {R} D x = Is R x (D.val x ∷ [])

pub record Value (R : RattleType) : Type 2 where
  pub type : Data R
  pub value : R.Denot
  pub is : Is R value (type.val value ∷ [])

abbrev pub word : (n : ℕ) → n < 2 ^ 64 → Value (UInt w64)
word n l = record { type = number w64; value = n; is = (refl, l) }

abbrev pub half : (n : ℕ) → n < 2 ^ 32 → Value (UInt w32)
half n l = record { type = number w32; value = n; is = (refl, l) }

-- a value beside what there is
pub owned_by : {M : Type 1} {𝓤 : Ura M} {𝓛 : Logic 𝓤} {K : Type 0} {Γ : List (Item 𝓤)} {G : Goal 𝓤 𝓛.H} → K → {R : RattleType} (D : Data R) (x : R.Denot) → Is R x (D.val x ∷ []) → Step K 𝓛 (‵ (R.own_val x (D.val x ∷ [])) ∷ Γ) G Γ G
owned_by {M} {𝓤} {𝓛} t {R} D x is = owned t R (Is R) (D.makes M 𝓤 𝓛) x (D.val x ∷ []) is
