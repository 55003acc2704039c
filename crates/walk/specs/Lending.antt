-- A run of structs behind a `&mut` that is lent again for a call: the code that does so, and the run lent as a `&` for the call's time.
--     relent       the code: the run's address is taken anew, and its count is read beside it
--     Sharing      what the holder of a `&κ mut [E]` keeps while it is lent as a `&ν [E]`
--     shares       it is lent so, for κ's token and a lifetime ν that begins.        shared_back      ν ends, and the run and κ's token are back
-- Assumes `Logic`.
use Rattle.std.specs.Prelude.{◌≡◌, refl, ℕ, zero, ◌+◌, List, [], ◌∷◌, length, T as Holds}
use Rattle.std.proofs.Common.{sym, subst}
use Rattle.std.proofs.Math.Option.{Option, some}
use seplogic.Ra.Ura.{Ura}
use base.Fraction.{full_share}
use mir.Syntax.{Lifetime, named, mut, Ty, ty_ref, deref, field, place, copy, addr_of, aggregate, Body, seq, assign}
use mir.Val.{Val, vptr, has_ty, WT}
use base.Fml.{Lft, Share, Fml, fat, fsep, flft, flent}
use prog.Memory.{field_of}
use prog.Wp.{Env, spot_of, Calls, Loops}
use types.Logic.{Logic}
use types.Kit.{Item, ‵, raw, ◌⊛◌, later, Goal, Post, runs, Soaks, Seq, Step, step, ◌$◌, move, drop, split, join, use2, fsplit, fjoin, feq_i, await}
use types.Part.{whole, sub, look_in, agg}
use types.Run.{Reads, Finds, hop, fld, stop, from, addr, and_then, no_more}
use types.Share.{arr_parts}
use types.Tokens.{lft_new, lft_end, lent_back}
use denote.Lend.{lends_shr_slice}
use denote.Memory.{shares as shares_of}
use denote.Ref.{as_bor}
use denote.Slice.{slice_ty, slice_val, Room}
use denote.Struct.Laws as LL
use Rattle.walk.specs.Locals.{held, Has, at, with, Rest, within, var, part, lets}
use Rattle.walk.specs.Calling.{tokens}
use Rattle.walk.specs.Slices.{Element, Row, SliceMut, Shared, Lent, Writing, opens_run, closes_run}

module _ {M : Type 1} {𝓤 : Ura M} {𝓛 : Logic 𝓤} {K : Type 0} {Γ : List (Item 𝓤)} {E : Env 𝓤 𝓛.H} {hs : List (Option Val)} where
  -- where a slice's first element lies
  open 𝓛 use {H}

  first : K → {i : ℕ} → Has 𝓤 H E i → {b o n : ℕ} {ℓ : Lifetime} {σ τ : Ty} → (spot_of 𝓤 H E i).0 ≡ slice_ty (ty_ref ℓ mut σ) → at i hs ≡ some (slice_val (b, o) n) → Finds K 𝓛 (held 𝓤 H E hs ∷ Γ) E (place i (field 0 ∷ deref τ ∷ [])) (τ, b, o)
  first t {i} is {b} {o} {n} {ℓ} {σ} m e = from t (fld t (subst (λ (ρ : Ty). field_of ρ 0 ≡ some (ty_ref ℓ mut σ, 0)) (sym m) refl) (hop t (within t i is e
      (subst (λ (ρ : Ty). Reads K 𝓛 (‵ (fat full_share ρ (spot_of 𝓤 H E i).1 zero (slice_val (b, o) n)) ∷ raw (Rest 𝓤 H E hs i) ∷ Γ) (ty_ref ℓ mut σ) (spot_of 𝓤 H E i).1 (zero + 0) (vptr b o)) (sym m) (look_in t 0 (sub t 0 refl (whole t))))) (stop t)))

  -- the slice in _i, its pointer again in _p, and the two together in _s
  pub relent : K → {C : Calls 𝓤 H} {Λ : Loops 𝓤 H} {q : Post 𝓤 H} {rest : Body} {i p s : ℕ} → Has 𝓤 H E i → Has 𝓤 H E p → Has 𝓤 H E s → {b o n : ℕ} {ℓ : Lifetime} {σ τ : Ty} → (spot_of 𝓤 H E i).0 ≡ slice_ty (ty_ref ℓ mut σ)
      → at i hs ≡ some (slice_val (b, o) n) → at i (with p (some (vptr b o)) hs) ≡ some (slice_val (b, o) n) → at p (with p (some (vptr b o)) hs) ≡ some (vptr b o)
      → Holds (has_ty (spot_of 𝓤 H E p).0 (vptr b o)) × WT (vptr b o) → Holds (has_ty (spot_of 𝓤 H E s).0 (slice_val (b, o) n)) × WT (slice_val (b, o) n)
      → Step K 𝓛 (held 𝓤 H E (with s (some (slice_val (b, o) n)) (with p (some (vptr b o)) hs)) ∷ Γ) (runs C Λ E rest q)
      (held 𝓤 H E hs ∷ Γ) (runs C Λ E (seq (assign (place p []) (addr_of (place i (field 0 ∷ deref τ ∷ [])))) (seq (assign (place s []) (aggregate (copy (place p []) ∷ copy (place i (field 1 ∷ [])) ∷ []))) rest)) q)
  relent t i-is p_is s-is m e e' e'' typed typed' = step (λ k. lets t p_is (addr t (first t i-is m e)) typed $ lets t s-is (agg t (and_then t (var t p_is e'') (and_then t (part t i-is m refl e') (no_more t)))) typed' $ k)

abbrev pub Sharing : (E : Element) → ℕ → Lft → Share → SliceMut E → Fml
Sharing E ν κ q s = fsep (flent (ν ∷ []) ((arr_parts (shares_of (Row E)) (length s.now)).part full_share s.now s.ref_ptr.0 s.ref_ptr.1)) (Writing E κ q s)

-- beside the locals i
module _ {M : Type 1} {𝓤 : Ura M} {𝓛 : Logic 𝓤} {K : Type 0} {Γ : List (Item 𝓤)} {i : Item 𝓤} {G : Goal 𝓤 𝓛.H} (E : Element) (t : K) (z : Soaks G) (κ : Lft) (q : Share) (s : (SliceMut E)) (room : Room (Row E) (length s.now)) where
  pub shares : ((ν : ℕ) → Seq K 𝓛 (i ∷ tokens 1 (ν ∷ [], tt) (full_share, tt) ∷ ‵ (Shared E (named 0) (ν ∷ []) (as_bor s)) ∷ ‵ (Sharing E ν κ q s) ∷ Γ) G) → Seq K 𝓛 (i ∷ tokens 1 (κ, tt) (q, tt) ∷ ‵ (Lent E (named 0) κ s s.now) ∷ Γ) G
  shares k = move t (1 ∷ []) $ split t $ move t (3 ∷ 0 ∷ []) $ opens_run E t z (named 0) κ q s $ feq_i t ℕ (length s.now) (length s.now) refl $ fjoin t $ lft_new t z (λ ν. move t (1 ∷ []) $
      use2 𝓛 (later ((‵ (Shared E (named 0) (ν ∷ []) (as_bor s)) ⊛ ‵ (flent (ν ∷ []) ((arr_parts (shares_of (Row E)) (length s.now)).part full_share s.now s.ref_ptr.0 s.ref_ptr.1))) ⊛ ‵ (flft (ν ∷ []) full_share)))
      (lends_shr_slice 𝓛 (Row E) (named 0) (ν ∷ []) full_share s.now s.ref_ptr.0 s.ref_ptr.1 room (ν ∷ []) ((LL.copied E.type E.copies 𝓛).shares full_share (ν ∷ [])) ((ν ∷ [], full_share) ∷ []) (λ x m. m) (λ x m. m)) $ await t z $ split t $ split t $
      -- [the `&`; the lender's part; ν's token; the open borrow; nothing; i; Γ]
      move t (1 ∷ 3 ∷ []) $ fjoin t $ move t (2 ∷ 3 ∷ []) $ join t $ move t (3 ∷ 0 ∷ 2 ∷ []) $ k ν)

  -- what a call has said meanwhile is let go
  pub shared_back : (ν : ℕ) {j : Item 𝓤} → Step K 𝓛 (i ∷ tokens 1 (κ, tt) (q, tt) ∷ ‵ (Lent E (named 0) κ s s.now) ∷ Γ) G (i ∷ tokens 1 (ν ∷ [], tt) (full_share, tt) ∷ j ∷ ‵ (Sharing E ν κ q s) ∷ Γ) G
  shared_back ν = step (λ k. move t (3 ∷ 2 ∷ []) $ fsplit t $ move t (2 ∷ []) $ drop t $ move t (3 ∷ []) $ split t $ lft_end t z $ move t (0 ∷ 2 ∷ []) $ lent_back t z $ fsplit t $ drop t $
      move t (0 ∷ 2 ∷ []) $ closes_run E t z (named 0) κ q s s.now refl room $ move t (1 ∷ 2 ∷ []) $ join t $ move t (2 ∷ 0 ∷ []) $ k)
