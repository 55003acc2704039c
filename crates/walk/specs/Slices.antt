-- A run of structs in a walk's context, as one entry: an element is read and written where it stands, by the pointer that the code has made.
--     Element      a struct's type with its laws, and what stands past a run's end.        OfE, a_value, spell, typed      the type by value, one of it, its machine value, and that this is of the type
--     Slice, SliceMut      what a `&[E]` and a `&mut [E]` denote: the second is seen as the first by `as_bor`
--     run          the share q of the elements xs, where the slice s lies.        ref          a slice's machine value
--     knows        that element i is one is learned.        elem         element i is read.        put_elem     another is stored in its place
--     looks_run    a `&κ [E]` is looked into, for κ's token: some share of its elements, and what shuts it again, an entry (`Looking`).        shuts_run    the slice and the token are back
--     opens_run    a `&κ mut [E]` is opened, for κ's token: its elements, and what closes it again (`Writing`).        closes_run   the slice, at as many other elements, and the token are back
-- Assumes `Logic`.
use Rattle.std.specs.Prelude.{◌≡◌, refl, ℕ, ◌+◌, ◌*◌, ◌<◌, List, [], ◌∷◌, length, get_or, set, T as Holds}
use Rattle.std.proofs.Common.{sym, ap, subst}
use seplogic.Ra.Ura.{Ura}
use base.Fraction.{full_share}
use mir.Syntax.{Lifetime, Ty}
use mir.Val.{Val, has_ty, WT}
use base.Logic.{SProp, ent, sep, via}
use base.Fml.{Lft, Share, Fml, fsep, flft, fobs, fauth, fobor}
use prog.Wp.{read, write}
use types.Logic.{Logic, sem}
use types.Kit.{Item, ‵, ◌⊛◌, mean, ⋆, nth, del, put, pop, unpull, fill, Goal, prop, Soaks, Seq, Step, step, ◌$◌, by, move, drop, split, rewrite, join, fsplit, fjoin}
use types.Run.{Reads, Writes, look_raw, store_raw}
use Rattle.std.specs.Borrow.{RattleType}
use denote.Laws.{Is, shows}
use denote.Shadow.{pure_i}
use denote.Ref.{Bor, MutBor, at_last, as_bor}
use denote.Opens.{Shut}
use denote.Slice.{slice_val, ShrSlice, MutSlice, heres, Room, mut_slice_at, coded_holeys}
use denote.Lend.{Held}
use denote.Memory.{mem, shares, lone, cell_at}
use denote.Index.{row, place, others, place_is, elem_out, elem_back, elem_put, looks_slice, shuts_slice, opens_slice, closes_slice}
use denote.Struct.Declared.{Declared, fields, row as row_of}
use denote.Struct.Struct.{Plains}
use denote.Struct.Laws as LL
use Rattle.walk.specs.Values.{Data, struct, fits_in, owned_by, Value}

pub record Element : Type 2 where
  pub type : Declared
  pub laws : LL.Laws type
  pub plains : Plains (fields type)
  pub copies : LL.Copyables type.parts
  pub past : type.D

module _ (E : Element) where
  abbrev pub Row : RattleType
  Row = row_of E.type

  abbrev pub OfE : Data Row
  OfE = struct E.type E.laws E.plains E.copies

  abbrev pub spell : E.type.D → Val
  spell r = LL.val E.type E.laws r

  abbrev Layout : Ty
  Layout = lone Row.mir

  abbrev width : ℕ
  width = (mem Row).size

  abbrev pub Slice : Type 0
  Slice = Bor (List E.type.D)

  abbrev pub SliceMut : Type 0
  SliceMut = MutBor (List E.type.D)

  abbrev pub ref : Slice → Val
  ref s = slice_val s.ref_ptr (length s.now)

  abbrev pub run : Share → List E.type.D → Slice → Fml
  run q xs s = row Row q xs s.ref_ptr.0 s.ref_ptr.1

  -- that r is an element, at its machine value
  abbrev pub IsE : E.type.D → Type 0
  IsE r = Is Row r (spell r ∷ [])

  abbrev pub a_value : (r : E.type.D) → IsE r → Value Row
  a_value r is = record { type = OfE; value = r; is = is }

  pub typed : {M : Type 1} {𝓤 : Ura M} (𝓛 : Logic 𝓤) (r : E.type.D) → IsE r → Holds (has_ty Layout (spell r)) × WT (spell r)
  typed 𝓛 r is = fits_in 𝓛 OfE r is refl

  -- element i, at the value v, beside the others
  abbrev Apart : {M : Type 1} {𝓤 : Ura M} → Share → List E.type.D → Slice → ℕ → Val → List (Item 𝓤) → List (Item 𝓤)
  Apart q xs s i v Δ = ‵ (cell_at q Row.mir (v ∷ []) s.ref_ptr.0 (place width s.ref_ptr.1 i)) ∷ ‵ (Row.own_val (get_or xs i E.past) (spell (get_or xs i E.past) ∷ [])) ∷ ‵ (others (shares Row) q xs i s.ref_ptr.0 s.ref_ptr.1) ∷ Δ

  module _ {M : Type 1} {𝓤 : Ura M} {𝓛 : Logic 𝓤} {K : Type 0} {Γ : List (Item 𝓤)} where
    -- the entry n out of the context, and back into it
    open 𝓛 use {H}

    opens_at : K → (n : ℕ) (j : Item 𝓤) → nth 𝓛 n Γ ≡ j → {G : Goal 𝓤 H} → Step K 𝓛 (j ∷ del 𝓛 n Γ) G Γ G
    opens_at t n j e = step (λ s. move t (n ∷ []) $ rewrite t 0 (λ (i : Item 𝓤). i) e refl $ s)

    shuts_at : K → (n : ℕ) (j : Item 𝓤) → nth 𝓛 n Γ ≡ j → {G : Goal 𝓤 H} → Seq K 𝓛 Γ G → Seq K 𝓛 (j ∷ del 𝓛 n Γ) G
    shuts_at t n j e s = by t (via 𝓤 (sep 𝓤 (mean 𝓛 j) (⋆ 𝓛 (del 𝓛 n Γ))) (pop 𝓛 j (del 𝓛 n Γ))
        (via 𝓤 (⋆ 𝓛 Γ) (subst (λ (i : Item 𝓤). ent 𝓤 (sep 𝓤 (mean 𝓛 i) (⋆ 𝓛 (del 𝓛 n Γ))) (⋆ 𝓛 Γ)) e (unpull 𝓛 n Γ)) s.prf))

    module _ (t : K) (n : ℕ) (q : Share) (xs : List E.type.D) (s : Slice) (i : ℕ) (e : nth 𝓛 n Γ ≡ ‵ (run q xs s)) (l : i < length xs) where
      takes : {G : Goal 𝓤 H} → (IsE (get_or xs i E.past) → Seq K 𝓛 (Apart q xs s i (spell (get_or xs i E.past)) (del 𝓛 n Γ)) G) → Seq K 𝓛 Γ G
      takes k = opens_at t n (‵ (run q xs s)) e $ elem_out t Row (Is Row) (shows 𝓛 Row) (LL.vals E.type E.laws) (LL.tells E.type E.laws) q xs i E.past s.ref_ptr.0 s.ref_ptr.1 l k

      gives : {G : Goal 𝓤 H} → Seq K 𝓛 Γ G → Seq K 𝓛 (Apart q xs s i (spell (get_or xs i E.past)) (del 𝓛 n Γ)) G
      gives k = elem_back t Row q xs i E.past (spell (get_or xs i E.past) ∷ []) s.ref_ptr.0 s.ref_ptr.1 l $ shuts_at t n (‵ (run q xs s)) e k

      pub knows : {G : Goal 𝓤 H} → (IsE (get_or xs i E.past) → Seq K 𝓛 Γ G) → Seq K 𝓛 Γ G
      knows k = takes (λ g. gives (k g))

      pub elem : Reads K 𝓛 Γ Layout s.ref_ptr.0 (i * width + s.ref_ptr.1) (spell (get_or xs i E.past))
      elem = subst (λ (p : ℕ). Reads K 𝓛 Γ Layout s.ref_ptr.0 p (spell (get_or xs i E.past))) (place_is width s.ref_ptr.1 i) (record {
        go = λ Kt h. (takes {G = prop (read 𝓤 H Layout s.ref_ptr.0 (place width s.ref_ptr.1 i) Kt)} (λ _. by t (cell.go Kt (gives {G = prop (Kt (spell (get_or xs i E.past)))} (by t h)).prf))).prf;
      })
        where
          cell : Reads K 𝓛 (Apart q xs s i (spell (get_or xs i E.past)) (del 𝓛 n Γ)) Layout s.ref_ptr.0 (place width s.ref_ptr.1 i) (spell (get_or xs i E.past))
          cell = look_raw t 0 refl

    module _ (t : K) (n : ℕ) (xs : List E.type.D) (s : Slice) (i : ℕ) (e : nth 𝓛 n Γ ≡ ‵ (run full_share xs s)) (l : i < length xs) (r : E.type.D) (is : IsE r) where
      pub put_elem : Writes K 𝓛 Γ Layout s.ref_ptr.0 (i * width + s.ref_ptr.1) (spell r) (put 𝓛 n (‵ (run full_share (set xs i r) s)) Γ)
      put_elem = subst (λ (p : ℕ). Writes K 𝓛 Γ Layout s.ref_ptr.0 p (spell r) (put 𝓛 n (‵ (run full_share (set xs i r) s)) Γ)) (place_is width s.ref_ptr.1 i) (record {
        go = λ P h. (takes t n full_share xs s i e l {G = prop (write 𝓤 H Layout s.ref_ptr.0 (place width s.ref_ptr.1 i) (spell r) P)} (λ _. by t (cell.go P (puts P h).prf))).prf;
      })
        where
          cell : Writes K 𝓛 (Apart full_share xs s i (spell (get_or xs i E.past)) (del 𝓛 n Γ)) Layout s.ref_ptr.0 (place width s.ref_ptr.1 i) (spell r) (Apart full_share xs s i (spell r) (del 𝓛 n Γ))
          cell = store_raw t 0 refl (typed 𝓛 r is)

          puts : (P : SProp 𝓤) → ent 𝓤 (⋆ 𝓛 (put 𝓛 n (‵ (run full_share (set xs i r) s)) Γ)) P → Seq K 𝓛 (Apart full_share xs s i (spell r) (del 𝓛 n Γ)) (prop P)
          puts P h = move t (1 ∷ []) $ drop t $ owned_by t OfE r is $ move t (1 ∷ 0 ∷ []) $ elem_put t Row full_share xs i r (spell r ∷ []) s.ref_ptr.0 s.ref_ptr.1 l $
              by t (via 𝓤 (sep 𝓤 (sem 𝓛 (run full_share (set xs i r) s)) (⋆ 𝓛 (del 𝓛 n Γ))) (pop 𝓛 (‵ (run full_share (set xs i r) s)) (del 𝓛 n Γ))
              (via 𝓤 (⋆ 𝓛 (put 𝓛 n (‵ (run full_share (set xs i r) s)) Γ)) (fill 𝓛 n (‵ (run full_share (set xs i r) s)) Γ) h))

  -- ---- a slice of them, opened and closed
  abbrev pub Shared : Lifetime → Lft → Slice → Fml
  Shared ℓ κ s = (ShrSlice ℓ κ Row).own_val s (ref s ∷ [])

  -- what was passed as s, at the elements zs
  abbrev pub Lent : Lifetime → Lft → SliceMut → List E.type.D → Fml
  Lent ℓ κ s zs = (MutSlice ℓ κ Row).own_val (at_last s zs) (ref (as_bor s) ∷ [])

  abbrev pub Looking : {M : Type 1} {𝓤 : Ura M} → Logic 𝓤 → Lifetime → Lft → Share → Share → Slice → Item 𝓤
  Looking 𝓛 ℓ κ q q' s = Shut 𝓛 κ q (run q' s.now s) ⊛ ‵ (Shared ℓ κ s)

  abbrev pub Writing : Lft → Share → SliceMut → Fml
  Writing κ q s = fsep (fobor κ q (Held Row (length s.now) s.ref_ptr.0 s.ref_ptr.1 s.ghost_name)) (fsep (fobs s.ghost_name ((coded_holeys Row).code (heres Row s.now))) (fauth s.ghost_name ((coded_holeys Row).code (heres Row s.now))))

  module _ {M : Type 1} {𝓤 : Ura M} {𝓛 : Logic 𝓤} {K : Type 0} {Γ : List (Item 𝓤)} {G : Goal 𝓤 𝓛.H} (t : K) (z : Soaks G) (ℓ : Lifetime) (κ : Lft) (q : Share) where
    module _ (s : Slice) where
      pub looks_run : ((q' : Share) → Seq K 𝓛 (‵ (run q' s.now s) ∷ Looking 𝓛 ℓ κ q q' s ∷ Γ) G) → Seq K 𝓛 (‵ (Shared ℓ κ s) ∷ ‵ (flft κ q) ∷ Γ) G
      looks_run k = fsplit t $ move t (1 ∷ 2 ∷ []) $ looks_slice t z Row (LL.copied E.type E.copies 𝓛) s.now s.ref_ptr.0 s.ref_ptr.1 (λ q'.
          -- [the elements; the token's way back; what is left of the slice, in two]
          move t (3 ∷ 2 ∷ []) $ fjoin t $ move t (2 ∷ 0 ∷ []) $ join t $ move t (1 ∷ []) $ k q')

      pub shuts_run : (q' : Share) → Step K 𝓛 (‵ (Shared ℓ κ s) ∷ ‵ (flft κ q) ∷ Γ) G (‵ (run q' s.now s) ∷ Looking 𝓛 ℓ κ q q' s ∷ Γ) G
      shuts_run q' = step (λ k. move t (1 ∷ []) $ split t $ move t (2 ∷ 0 ∷ []) $ shuts_slice t z Row q' s.now s.ref_ptr.0 s.ref_ptr.1 $ move t (1 ∷ []) $ k)

    module _ (s : SliceMut) where
      pub opens_run : Step K 𝓛 (‵ (run full_share s.now (as_bor s)) ∷ ‵ (Writing κ q s) ∷ Γ) G (‵ (Lent ℓ κ s s.now) ∷ ‵ (flft κ q) ∷ Γ) G
      opens_run = step (λ k. fsplit t $ drop t $ fsplit t $ opens_slice t z Row s.now s.ref_ptr.0 s.ref_ptr.1 $ move t (2 ∷ 3 ∷ []) $ fjoin t $ move t (2 ∷ 0 ∷ []) $ fjoin t $ move t (1 ∷ []) $ k)

      pub closes_run : (zs : List E.type.D) → length zs ≡ length s.now → Room Row (length s.now) → Step K 𝓛 (‵ (Lent ℓ κ s zs) ∷ ‵ (flft κ q) ∷ Γ) G (‵ (run full_share zs (as_bor s)) ∷ ‵ (Writing κ q s) ∷ Γ) G
      closes_run zs e room = step (λ k. move t (1 ∷ []) $ fsplit t $ move t (1 ∷ []) $ fsplit t $ move t (3 ∷ 2 ∷ 0 ∷ 1 ∷ []) $ closes_slice t z Row s.now zs e s.ref_ptr.0 s.ref_ptr.1 $ fjoin t $
          pure_i t (mut_slice_at Row (at_last s zs) (ref (as_bor s) ∷ [])) (tt, (tt, tt)) (ap (λ (n : ℕ). slice_val s.ref_ptr n ∷ []) (sym e), subst (Room Row) (sym e) room) $ fjoin t $ k)
