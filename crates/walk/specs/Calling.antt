-- A call. Each argument is a value, which is had for nothing, or what the context owns; the callee is known by its contract and its theorem.
--     Arg          an argument: `of` a value, or `own` what the context owns at its machine values
--     tokens       the tokens of a call's lifetimes.        taken        what the arguments take from the context
--     calls_to     the call: after it the tokens are back, with the result, what is said of the last values and what the callee ensures.        calls        the same where the result is plain data, which is then in its local
--     gives        the same where the contract says what is returned and left.        asks         the same of a callee with no lifetime
-- Assumes `Logic`.
use Rattle.std.specs.Prelude.{◌≡◌, refl, ℕ, zero, suc, List, [], ◌∷◌, ◌++◌}
use Rattle.std.proofs.Common.{sym, ap, subst}
use Rattle.std.proofs.Math.Option.{Option, some}
use seplogic.Ra.Ura.{Ura}
use mir.Syntax.{Callee, Place, place, Opd as Operand, Body, seq, call}
use mir.Val.{Val}
use base.Logic.{SProp, ent, sep, emp, id⊢, via, mono_l, mono_r, emp∗}
use base.Fml.{ftrue, flft}
use prog.Wp.{Env, spot_of, Calls, Loops, eval_opds}
use types.Logic.{Logic, sem}
use sound.WpLaws.{FmC}
use contract.Lifetimes.{Lfts, Shares, AllOutlive, toks}
use contract.Monad.{fact}
use types.Kit.{Item, ‵, raw, ◌⊛◌, some as Some-of, later, mean, ⋆, push, pop, ⊢++, Post, runs, lands, aim, Seq, ◌$◌, ◌∵◌, !, qed, by, use0, use1, move, drop, split, join, pick, rewrite, frame, await}
use types.Run.{Opds}
use denote.RattleType.{RattleType, Denots, Valss, flat, owns}
use denote.Laws.{Is, shows}
use denote.Signature.{Slot, type_at, types_at}
use denote.Steps.{only, facts, heard, nothing}
use denote.Triple.Statement.{Contract, Triple}
use denote.Triple.Clauses.{Ended, Clauses, Lasts, lasts, at_exit, closing}
use denote.Triple.End.{Kepts}
use denote.Triple.Spec.{triple_of}
use Rattle.walk.specs.Locals.{held, Has, with, lands_in}
use Rattle.walk.specs.Values.{Data, Value, fits_in}

-- ---- arguments
pub data Arg (R : RattleType) : Type 2 where
  of : Value R → Arg R
  own : R.Denot → List Val → Arg R

abbrev value_of : {R : RattleType} → Arg R → R.Denot
value_of (of v) = v.value
value_of (own x vs) = x

abbrev vals_of : {R : RattleType} → Arg R → List Val
vals_of (of v) = v.type.val v.value ∷ []
vals_of (own x vs) = vs

abbrev takes : {M : Type 1} {𝓤 : Ura M} {R : RattleType} → Arg R → List (Item 𝓤) → List (Item 𝓤)
takes (of v) Γ = Γ
takes {R = R} (own x vs) Γ = ‵ (R.own_val x vs) ∷ Γ

abbrev pub Args : List RattleType → Type 2
Args [] = Unit {2}
Args (R ∷ Rs) = Arg R × Args Rs

abbrev pub denoted : (Rs : List RattleType) → Args Rs → Denots Rs
denoted [] xs = tt
denoted (R ∷ Rs) xs = (value_of xs.0, denoted Rs xs.1)

abbrev pub spelled : (Rs : List RattleType) → Args Rs → Valss Rs
spelled [] xs = tt
spelled (R ∷ Rs) xs = (vals_of xs.0, spelled Rs xs.1)

abbrev pub taken : {M : Type 1} {𝓤 : Ura M} (Rs : List RattleType) → Args Rs → List (Item 𝓤)
taken [] xs = []
taken (R ∷ Rs) xs = takes xs.0 (taken Rs xs.1)

abbrev pub tokens : {M : Type 1} {𝓤 : Ura M} (n : ℕ) → Lfts n → Shares n → Item 𝓤
tokens zero κs qs = ‵ ftrue
tokens (suc n) κs qs = ‵ (flft κs.0 qs.0) ⊛ tokens n κs.1 qs.1

module _ {M : Type 1} {𝓤 : Ura M} (𝓛 : Logic 𝓤) where
  open 𝓛 use {A}

  toks_of : (n : ℕ) (κs : Lfts n) (qs : Shares n) → ent 𝓤 (mean 𝓛 (tokens n κs qs)) (toks 𝓛 n κs qs)
  toks_of zero κs qs = id⊢ 𝓤 (emp 𝓤)
  toks_of (suc n) κs qs = mono_r 𝓤 (A.lft κs.0 qs.0) (toks_of n κs.1 qs.1)

  of_toks : (n : ℕ) (κs : Lfts n) (qs : Shares n) → ent 𝓤 (toks 𝓛 n κs qs) (mean 𝓛 (tokens n κs qs))
  of_toks zero κs qs = id⊢ 𝓤 (emp 𝓤)
  of_toks (suc n) κs qs = mono_r 𝓤 (A.lft κs.0 qs.0) (of_toks n κs.1 qs.1)

  -- what the arguments own
  had_one : {R : RattleType} (x : Arg R) (Γ : List (Item 𝓤)) → ent 𝓤 (⋆ 𝓛 (takes x Γ)) (sep 𝓤 (sem 𝓛 (R.own_val (value_of x) (vals_of x))) (⋆ 𝓛 Γ))
  had_one (of v) Γ = via 𝓤 (sep 𝓤 (emp 𝓤) (⋆ 𝓛 Γ)) (emp∗ 𝓤 (⋆ 𝓛 Γ)) (mono_l 𝓤 (⋆ 𝓛 Γ) (v.type.makes M 𝓤 𝓛 v.value (v.type.val v.value ∷ []) v.is))
  had_one {R} (own x vs) Γ = pop 𝓛 (‵ (R.own_val x vs)) Γ

  had : (Rs : List RattleType) (xs : Args Rs) → ent 𝓤 (⋆ 𝓛 (taken Rs xs)) (sem 𝓛 (owns Rs (denoted Rs xs) (spelled Rs xs)))
  had [] xs = id⊢ 𝓤 (emp 𝓤)
  had (R ∷ Rs) xs = via 𝓤 (sep 𝓤 (sem 𝓛 (R.own_val (value_of xs.0) (vals_of xs.0))) (⋆ 𝓛 (taken Rs xs.1))) (had_one xs.0 (taken Rs xs.1)) (mono_r 𝓤 (sem 𝓛 (R.own_val (value_of xs.0) (vals_of xs.0))) (had Rs xs.1))

-- a result that is owned is spelled out, and goes to the local _j
pub takes_in : {M : Type 1} {𝓤 : Ura M} {𝓛 : Logic 𝓤} {K : Type 0} {Γ : List (Item 𝓤)} {E : Env 𝓤 𝓛.H} {hs : List (Option Val)} {C : Calls 𝓤 𝓛.H} {Λ : Loops 𝓤 𝓛.H} {q : Post 𝓤 𝓛.H} {j : ℕ} {rest : Body} → K → {R : RattleType} (D : Data R) (r : R.Denot) (v : Val) → Has 𝓤 𝓛.H E j → R.mir ≡ (spot_of 𝓤 𝓛.H E j).0 ∷ []
    → (Is R r (D.val r ∷ []) → Seq K 𝓛 (held 𝓤 𝓛.H E (with j (some (D.val r)) hs) ∷ Γ) (runs C Λ E rest q)) → Seq K 𝓛 (‵ (R.own_val r (v ∷ [])) ∷ held 𝓤 𝓛.H E hs ∷ Γ) (lands C Λ E (place j []) v rest q)
takes_in {𝓤 = 𝓤} {𝓛 = 𝓛} {K = K} {Γ = Γ} {E = E} {hs = hs} {C = C} {Λ = Λ} {q = q} {j = j} {rest = rest} t {R} D r v i m k = facts t R (Is R) (shows 𝓛 R) r (v ∷ []) (λ is.
    subst (λ (u : Val). Seq K 𝓛 (held 𝓤 𝓛.H E hs ∷ Γ) (lands C Λ E (place j []) u rest q)) (sym (ap only (D.tells r (v ∷ []) is)))
    (lands_in t i (fits_in 𝓛 D r (subst (Is R r) (D.tells r (v ∷ []) is) is) m) $ k (subst (Is R r) (D.tells r (v ∷ []) is) is)))

-- ---- the call
-- the operands are read, and the callee takes what it asks, P, out of the context, of which it leaves Δ
pub calls_by : {M : Type 1} {𝓤 : Ura M} {𝓛 : Logic 𝓤} {K : Type 0} {Γ : List (Item 𝓤)} {E : Env 𝓤 𝓛.H} {C : Calls 𝓤 𝓛.H} {Λ : Loops 𝓤 𝓛.H} {q : Post 𝓤 𝓛.H} {f : Callee} {os : List Operand} {d : Place} {rest : Body} → K → FmC 𝓤 𝓛.H 𝓛.laws C
    → (Δ : List (Item 𝓤)) (P : SProp 𝓤) (vs : List Val) (Q : Val → SProp 𝓤) → ent 𝓤 P (C f vs Q) → ent 𝓤 (⋆ 𝓛 Γ) (sep 𝓤 P (⋆ 𝓛 Δ)) → Opds K 𝓛 Γ E os vs
    → ((v : Val) → Seq K 𝓛 (raw (Q v) ∷ Δ) (lands C Λ E d v rest q)) → Seq K 𝓛 Γ (runs C Λ E (seq (call f os d) rest) q)
calls_by {𝓤 = 𝓤} {𝓛 = 𝓛} {E = E} {C = C} {Λ = Λ} {q = q} {f = f} {os = os} {d = d} {rest = rest} t fm Δ P vs Q met brings opds k = record {
  prf = via 𝓤 (eval_opds 𝓤 𝓛.H E os (λ us. C f us (λ v. aim 𝓤 𝓛.H (lands C Λ E d v rest q))))
      (opds.go (λ us. C f us (λ v. aim 𝓤 𝓛.H (lands C Λ E d v rest q))) (via 𝓤 (sep 𝓤 (C f vs Q) (⋆ 𝓛 Δ)) (via 𝓤 (sep 𝓤 P (⋆ 𝓛 Δ)) brings (mono_l 𝓤 (⋆ 𝓛 Δ) met))
      (fm f vs Q (λ v. aim 𝓤 𝓛.H (lands C Λ E d v rest q)) (⋆ 𝓛 Δ) (λ v. via 𝓤 (⋆ 𝓛 (raw (Q v) ∷ Δ)) (push 𝓛 (raw (Q v)) Δ) (k v).prf))))
      (𝓛.laws.⇛_intro _);
}

abbrev Met : (T : Ended) {M : Type 1} {𝓤 : Ura M} (𝓛 : Logic 𝓤) → Clauses 𝓤 T → Contract 𝓤
Met T 𝓛 c = triple_of 𝓛 T.signature (closing 𝓛 T c)

-- what the callee ensures of the result y and the last values us
abbrev pub Says : (T : Ended) (κs : Lfts T.signature.lifetimes) (xs : Args (types_at T.signature.params κs)) {M : Type 1} {𝓤 : Ura M} (c : Clauses 𝓤 T)
    → (c κs (denoted (types_at T.signature.params κs) xs)).ghost → (type_at T.signature.result κs).Denot → Lasts T κs (denoted (types_at T.signature.params κs) xs) → SProp 𝓤
Says T κs xs c g y us = (c κs (denoted (types_at T.signature.params κs) xs)).ensures g y (at_exit T κs (denoted (types_at T.signature.params κs) xs) us)

module _ (T : Ended) (κs : Lfts T.signature.lifetimes) (qs : Shares T.signature.lifetimes) (xs : Args (types_at T.signature.params κs)) where
  abbrev n : ℕ
  n = T.signature.lifetimes

  abbrev Rs : List RattleType
  Rs = types_at T.signature.params κs

  abbrev R : RattleType
  R = type_at T.signature.result κs

  -- what the lifetimes, the arguments and the ghost value g make of the callee's contract c
  abbrev at : {M : Type 1} {𝓤 : Ura M} (𝓛 : Logic 𝓤) (c : Clauses 𝓤 T) → (c κs (denoted Rs xs)).ghost → AllOutlive n T.signature.outlives κs → (Met T 𝓛 c).Ghost
  at 𝓛 c g bounds = ((κs, qs, bounds, denoted Rs xs, spelled Rs xs), g)

  module _ {M : Type 1} {𝓤 : Ura M} {𝓛 : Logic 𝓤} {K : Type 0} {Γ : List (Item 𝓤)} {E : Env 𝓤 𝓛.H} {hs : List (Option Val)} {C : Calls 𝓤 𝓛.H} {Λ : Loops 𝓤 𝓛.H} {q : Post 𝓤 𝓛.H} {f : Callee} {os : List Operand} {j : ℕ} {rest : Body} where
    open 𝓛 use {H}

    module _ (t : K) (fm : FmC 𝓤 H 𝓛.laws C) (c : Clauses 𝓤 T) (met : Triple 𝓤 (C f) (Met T 𝓛 c)) (bounds : AllOutlive n T.signature.outlives κs) (g : (c κs (denoted Rs xs)).ghost) (need : ent 𝓤 (emp 𝓤) ((c κs (denoted Rs xs)).requires g)) where
      -- the result is owned, at the machine value that lands
      module _ (opds : Opds K 𝓛 (held 𝓤 H E hs ∷ tokens n κs qs ∷ (taken Rs xs ++ Γ)) E os (flat Rs (spelled Rs xs))) where
        pub calls_to : ((v : Val) (y : R.Denot) (us : Lasts T κs (denoted Rs xs))
            → Seq K 𝓛 (‵ (R.own_val y (v ∷ [])) ∷ held 𝓤 H E hs ∷ tokens n κs qs ∷ ‵ (lasts T κs (denoted Rs xs) us) ∷ raw (Says T κs xs c g y us) ∷ Γ) (lands C Λ E (place j []) v rest q))
            → Seq K 𝓛 (held 𝓤 H E hs ∷ tokens n κs qs ∷ (taken Rs xs ++ Γ)) (runs C Λ E (seq (call f os (place j [])) rest) q)
        calls_to k = calls_by t fm (held 𝓤 H E hs ∷ Γ) ((Met T 𝓛 c).pre (at 𝓛 c g bounds)) ((Met T 𝓛 c).args (at 𝓛 c g bounds)) ((Met T 𝓛 c).post (at 𝓛 c g bounds)) (met (at 𝓛 c g bounds)) brings opds (λ v.
            use1 𝓛 (later (Some-of (λ (y : R.Denot). (raw (toks 𝓛 n κs qs) ⊛ ‵ (R.own_val y (v ∷ []))) ⊛ Some-of (λ (us : Lasts T κs (denoted Rs xs)). ‵ (lasts T κs (denoted Rs xs) us) ⊛ raw (Says T κs xs c g y us))))) (id⊢ 𝓤 _) $ await t tt $
            pick t (λ y. split t $ split t $ move t (2 ∷ []) $ pick t (λ us. split t $
            -- [the last values; what is ensured; the tokens; the result; the locals; Γ]
            move t (2 ∷ []) $ use1 𝓛 (tokens n κs qs) (of_toks 𝓛 n κs qs) $ move t (3 ∷ 4 ∷ []) $ k v y us)))
          where
            brings : ent 𝓤 (⋆ 𝓛 (held 𝓤 H E hs ∷ tokens n κs qs ∷ (taken Rs xs ++ Γ))) (sep 𝓤 ((Met T 𝓛 c).pre (at 𝓛 c g bounds)) (⋆ 𝓛 (held 𝓤 H E hs ∷ Γ)))
            brings = via 𝓤 (⋆ 𝓛 (held 𝓤 H E hs ∷ tokens n κs qs ∷ raw (⋆ 𝓛 (taken Rs xs)) ∷ raw (⋆ 𝓛 Γ) ∷ []))
                (mono_r 𝓤 (mean 𝓛 (held 𝓤 H E hs)) (via 𝓤 (sep 𝓤 (mean 𝓛 (tokens n κs qs)) (⋆ 𝓛 (taken Rs xs ++ Γ))) (pop 𝓛 (tokens n κs qs) (taken Rs xs ++ Γ)) (mono_r 𝓤 (mean 𝓛 (tokens n κs qs)) (⊢++ 𝓛 (taken Rs xs) Γ))))
                (qed 𝓛 (held 𝓤 H E hs ∷ tokens n κs qs ∷ raw (⋆ 𝓛 (taken Rs xs)) ∷ raw (⋆ 𝓛 Γ) ∷ []) ∵
                move ! (2 ∷ []) $ use1 𝓛 (‵ (owns Rs (denoted Rs xs) (spelled Rs xs))) (had 𝓛 Rs xs) $ move ! (2 ∷ []) $ use1 𝓛 (raw (toks 𝓛 n κs qs)) (toks_of 𝓛 n κs qs) $ join ! $
                use0 𝓛 (raw ((c κs (denoted Rs xs)).requires g)) need $ move ! (1 ∷ 0 ∷ []) $ join ! $ frame ! $ by ! (push 𝓛 (held 𝓤 H E hs) Γ))

      module _ (D : Data R) (opds : Opds K 𝓛 (held 𝓤 H E hs ∷ tokens n κs qs ∷ (taken Rs xs ++ Γ)) E os (flat Rs (spelled Rs xs))) (i : Has 𝓤 H E j) (m : R.mir ≡ (spot_of 𝓤 H E j).0 ∷ []) where
        pub calls : ((y : R.Denot) (us : Lasts T κs (denoted Rs xs)) → Is R y (D.val y ∷ [])
            → Seq K 𝓛 (held 𝓤 H E (with j (some (D.val y)) hs) ∷ tokens n κs qs ∷ ‵ (lasts T κs (denoted Rs xs) us) ∷ raw (Says T κs xs c g y us) ∷ Γ) (runs C Λ E rest q))
            → Seq K 𝓛 (held 𝓤 H E hs ∷ tokens n κs qs ∷ (taken Rs xs ++ Γ)) (runs C Λ E (seq (call f os (place j [])) rest) q)
        calls k = calls_to opds (λ v y us. takes_in t D y v i m (k y us))

        -- the contract says that the result is r and that the last values are ws
        pub gives : (r : R.Denot) (ws : Lasts T κs (denoted Rs xs)) → ((y : R.Denot) (us : Lasts T κs (denoted Rs xs)) → ent 𝓤 (Says T κs xs c g y us) (fact 𝓤 ((y ≡ r) × (us ≡ ws))))
            → (Is R r (D.val r ∷ []) → Seq K 𝓛 (held 𝓤 H E (with j (some (D.val r)) hs) ∷ tokens n κs qs ∷ ‵ (lasts T κs (denoted Rs xs) ws) ∷ Γ) (runs C Λ E rest q))
            → Seq K 𝓛 (held 𝓤 H E hs ∷ tokens n κs qs ∷ (taken Rs xs ++ Γ)) (runs C Λ E (seq (call f os (place j [])) rest) q)
        gives r ws told k = calls (λ y us is. move t (3 ∷ []) $ use1 𝓛 (raw (fact 𝓤 ((y ≡ r) × (us ≡ ws)))) (told y us) $ heard t ((y ≡ r) × (us ≡ ws)) (λ e.
            rewrite t 2 (λ (zs : Lasts T κs (denoted Rs xs)). ‵ (lasts T κs (denoted Rs xs) zs)) e.1 refl $
            subst (λ (z : R.Denot). Is R z (D.val z ∷ []) → Seq K 𝓛 (held 𝓤 H E (with j (some (D.val z)) hs) ∷ tokens n κs qs ∷ ‵ (lasts T κs (denoted Rs xs) ws) ∷ Γ) (runs C Λ E rest q)) (sym e.0) k is))

-- a signature with no lifetime
abbrev ByValue : (params : List (Slot 0)) → Slot 0 → Kepts params → Ended
ByValue params result kept = record { signature = record { lifetimes = 0; outlives = []; params = params; result = result }; kept = kept }

module _ {M : Type 1} {𝓤 : Ura M} {𝓛 : Logic 𝓤} {K : Type 0} {Γ : List (Item 𝓤)} {E : Env 𝓤 𝓛.H} {hs : List (Option Val)} {C : Calls 𝓤 𝓛.H} {Λ : Loops 𝓤 𝓛.H} {q : Post 𝓤 𝓛.H} {f : Callee} {os : List Operand} {j : ℕ} {rest : Body}
    {ps : List (Slot 0)} {result : Slot 0} {kept : Kepts ps} where
  -- the contract says that the result is r, and the last values are let go
  open 𝓛 use {H}

  pub asks : K → FmC 𝓤 H 𝓛.laws C → (c : Clauses 𝓤 (ByValue ps result kept)) → Triple 𝓤 (C f) (Met (ByValue ps result kept) 𝓛 c) → (xs : Args (types_at ps tt)) (g : (c tt (denoted (types_at ps tt) xs)).ghost)
      → ent 𝓤 (emp 𝓤) ((c tt (denoted (types_at ps tt) xs)).requires g) → (D : Data (type_at result tt)) (r : (type_at result tt).Denot)
      → ((y : (type_at result tt).Denot) (ws : Lasts (ByValue ps result kept) tt (denoted (types_at ps tt) xs)) → ent 𝓤 (Says (ByValue ps result kept) tt xs c g y ws) (fact 𝓤 (y ≡ r)))
      → Opds K 𝓛 (held 𝓤 H E hs ∷ ‵ ftrue ∷ (taken (types_at ps tt) xs ++ Γ)) E os (flat (types_at ps tt) (spelled (types_at ps tt) xs)) → Has 𝓤 H E j → (type_at result tt).mir ≡ (spot_of 𝓤 H E j).0 ∷ []
      → (Is (type_at result tt) r (D.val r ∷ []) → Seq K 𝓛 (held 𝓤 H E (with j (some (D.val r)) hs) ∷ Γ) (runs C Λ E rest q))
      → Seq K 𝓛 (held 𝓤 H E hs ∷ (taken (types_at ps tt) xs ++ Γ)) (runs C Λ E (seq (call f os (place j [])) rest) q)
  asks t fm c met xs g need D r told opds i m k = nothing t $ move t (1 ∷ []) $ calls (ByValue ps result kept) tt tt xs t fm c met tt g need D opds i m (λ y us is.
      move t (3 ∷ []) $ use1 𝓛 (raw (fact 𝓤 (y ≡ r))) (told y us) $ heard t (y ≡ r) (λ e. move t (1 ∷ 2 ∷ []) $ drop t $ drop t $
      subst (λ (z : (type_at result tt).Denot). Is (type_at result tt) z (D.val z ∷ []) → Seq K 𝓛 (held 𝓤 H E (with j (some (D.val z)) hs) ∷ Γ) (runs C Λ E rest q)) (sym e) k is))
