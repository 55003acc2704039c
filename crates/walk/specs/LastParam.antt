-- A function whose last parameter is a `&mut R`, and one that takes an R by value in its place, behind the same parameters ps and so with one lifetime less.
--     fore-, last-     of the lifetimes and their shares those before the last, and the last
--     Lending, Handing     the two signatures.        args, vals, typed        the first one's machine values, and that they are of its types
--     behind       what the reference is.        handed, handed_vals      the second one's arguments from the first one's
--     left_behind      last values of the first, from those of the second and what is left behind the reference
--     toks-, owns-, lasts-     the last token, what the reference owns and what is said of its last value, apart from the others'
-- Assumes nothing, but `Logic` where it is named.
use Rattle.std.specs.Prelude.{ℕ, zero, suc}
use mathlib.Core.List.{List, [], ◌∷◌}
use seplogic.Ra.Ura.{Ura}
use mir.Syntax.{named}
use mir.Val.{Val}
use base.Logic.{SProp, ent, emp, sep, id⊢, mono_r}
use base.Fml.{Lft, Share, Fml}
use types.Logic.{Logic, sem}
use contract.Lifetimes.{Lfts, Shares, toks}
use contract.Monad.{top}
use denote.RattleType.{RattleType, Denots, Valss, flat, mirs, owns}
use denote.Exit.{yes, left}
use denote.Laws.{Ises, Are, Spells, valss, Tellss, Lawfuls, Typed, all_Typed}
use denote.Ref.{MutBor, MutRef, mut_vals, mut_Tells, mut_Lawful}
use denote.Signature.{Slot, plain, types_at}
use denote.Triple.End.{Kepts, Fins, lasts_of}
use denote.Triple.Clauses.{Ended}
use Rattle.walk.specs.Locals.{out_past, in_past}
use Rattle.walk.specs.Params.{Param}

abbrev pub fore_lfts : (n : ℕ) → Lfts (suc n) → Lfts n
fore_lfts zero κs = tt
fore_lfts (suc n) κs = (κs.0, fore_lfts n κs.1)

abbrev pub last_lft : (n : ℕ) → Lfts (suc n) → Lft
last_lft zero κs = κs.0
last_lft (suc n) κs = last_lft n κs.1

abbrev pub fore_shares : (n : ℕ) → Shares (suc n) → Shares n
fore_shares zero qs = tt
fore_shares (suc n) qs = (qs.0, fore_shares n qs.1)

abbrev pub last_share : (n : ℕ) → Shares (suc n) → Share
last_share zero qs = qs.0
last_share (suc n) qs = last_share n qs.1

module _ {M : Type 1} {𝓤 : Ura M} (𝓛 : Logic 𝓤) where
  open 𝓛 use {A}

  pub toks_out : (n : ℕ) (κs : Lfts (suc n)) (qs : Shares (suc n)) → ent 𝓤 (toks 𝓛 (suc n) κs qs) (sep 𝓤 (A.lft (last_lft n κs) (last_share n qs)) (toks 𝓛 n (fore_lfts n κs) (fore_shares n qs)))
  toks_out zero κs qs = id⊢ 𝓤 (toks 𝓛 1 κs qs)
  toks_out (suc n) κs qs = out_past 𝓤 (A.lft κs.0 qs.0) (A.lft (last_lft n κs.1) (last_share n qs.1)) (toks 𝓛 n (fore_lfts n κs.1) (fore_shares n qs.1)) (toks 𝓛 (suc n) κs.1 qs.1) (toks_out n κs.1 qs.1)

  pub toks_in : (n : ℕ) (κs : Lfts (suc n)) (qs : Shares (suc n)) → ent 𝓤 (sep 𝓤 (A.lft (last_lft n κs) (last_share n qs)) (toks 𝓛 n (fore_lfts n κs) (fore_shares n qs))) (toks 𝓛 (suc n) κs qs)
  toks_in zero κs qs = id⊢ 𝓤 (toks 𝓛 1 κs qs)
  toks_in (suc n) κs qs = in_past 𝓤 (A.lft κs.0 qs.0) (A.lft (last_lft n κs.1) (last_share n qs.1)) (toks 𝓛 n (fore_lfts n κs.1) (fore_shares n qs.1)) (toks 𝓛 (suc n) κs.1 qs.1) (toks_in n κs.1 qs.1)

module _ (n : ℕ) (R : RattleType) where
  abbrev pub Lent : Lfts (suc n) → RattleType
  Lent κs = MutRef (named n) (last_lft n κs) R

  -- ---- the two signatures
  abbrev lent_slots : List (Param n) → List (Slot (suc n))
  lent_slots [] = plain Lent ∷ []
  lent_slots (p ∷ ps) = plain (λ κs. p.slot.row (fore_lfts n κs)) ∷ lent_slots ps

  abbrev lent_kept : (ps : List (Param n)) → Kepts (lent_slots ps)
  lent_kept [] = (yes, tt)
  lent_kept (p ∷ ps) = (yes, lent_kept ps)

  abbrev hand_slots : List (Param n) → List (Slot n)
  hand_slots [] = plain (λ _. R) ∷ []
  hand_slots (p ∷ ps) = p.slot ∷ hand_slots ps

  abbrev hand_kept : (ps : List (Param n)) → Kepts (hand_slots ps)
  hand_kept [] = (yes, tt)
  hand_kept (p ∷ ps) = (yes, hand_kept ps)

  abbrev pub Lending : List (Param n) → Slot (suc n) → Ended
  Lending ps result = record { signature = record { lifetimes = suc n; outlives = []; params = lent_slots ps; result = result }; kept = lent_kept ps }

  abbrev pub Handing : List (Param n) → Slot n → Ended
  Handing ps result = record { signature = record { lifetimes = n; outlives = []; params = hand_slots ps; result = result }; kept = hand_kept ps }

  -- ---- at the lifetimes κs
  module _ (κs : Lfts (suc n)) where
    abbrev pub Rs : List (Param n) → List RattleType
    Rs ps = types_at (lent_slots ps) κs

    abbrev pub Rs' : List (Param n) → List RattleType
    Rs' ps = types_at (hand_slots ps) (fore_lfts n κs)

    abbrev pub spells : (ps : List (Param n)) → Spells (Rs ps)
    spells [] = (mut_vals, tt)
    spells (p ∷ ps) = (p.spell (fore_lfts n κs), spells ps)

    pub tells : (ps : List (Param n)) → Tellss (Rs ps) (Ises (Rs ps)) (spells ps)
    tells [] = (mut_Tells (named n) (last_lft n κs) R, tt)
    tells (p ∷ ps) = (p.tells (fore_lfts n κs), tells ps)

    lawfuls : {M : Type 1} {𝓤 : Ura M} (𝓛 : Logic 𝓤) (ps : List (Param n)) → Lawfuls 𝓛 (Rs ps)
    lawfuls 𝓛 [] = (mut_Lawful 𝓛 (named n) (last_lft n κs) R, tt)
    lawfuls {M} {𝓤 = 𝓤} 𝓛 (p ∷ ps) = (p.lawful (fore_lfts n κs) M 𝓤 𝓛, lawfuls 𝓛 ps)

    abbrev pub vals : (ps : List (Param n)) → Denots (Rs ps) → Valss (Rs ps)
    vals ps a = valss (Rs ps) (spells ps) a

    pub typed : {M : Type 1} {𝓤 : Ura M} (𝓛 : Logic 𝓤) (ps : List (Param n)) (a : Denots (Rs ps)) → Are (Rs ps) (Ises (Rs ps)) a (vals ps a) → Typed (mirs (Rs ps)) (flat (Rs ps) (vals ps a))
    typed {𝓤 = 𝓤} 𝓛 ps a are = all_Typed 𝓛 (Rs ps) (lawfuls 𝓛 ps) a (vals ps a) are

    abbrev pub behind : (ps : List (Param n)) → Denots (Rs ps) → MutBor R.Denot
    behind [] a = a.0
    behind (p ∷ ps) a = behind ps a.1

    abbrev pub handed : (ps : List (Param n)) → Denots (Rs ps) → Denots (Rs' ps)
    handed [] a = (a.0.now, tt)
    handed (p ∷ ps) a = (a.0, handed ps a.1)

    abbrev pub handed_vals : (ps : List (Param n)) → Valss (Rs ps) → List Val → Valss (Rs' ps)
    handed_vals [] vss us = (us, tt)
    handed_vals (p ∷ ps) vss us = (vss.0, handed_vals ps vss.1 us)

    abbrev pub left_behind : (ps : List (Param n)) (a : Denots (Rs ps)) → Fins (fore_lfts n κs) (hand_slots ps) (hand_kept ps) (handed ps a) → R.Denot → Fins κs (lent_slots ps) (lent_kept ps) a
    left_behind [] a ws h = (h, tt)
    left_behind (p ∷ ps) a ws h = (ws.0, left_behind ps a.1 ws.1 h)

    -- what is said of the last values of the second function
    abbrev pub Said : (ps : List (Param n)) (a : Denots (Rs ps)) → Fins (fore_lfts n κs) (hand_slots ps) (hand_kept ps) (handed ps a) → Fml
    Said ps a ws = lasts_of (fore_lfts n κs) (hand_slots ps) (hand_kept ps) (handed ps a) ws

    module _ {M : Type 1} {𝓤 : Ura M} (𝓛 : Logic 𝓤) where
      -- what the parameters before the last own
      open 𝓛 use {A}

      pub Others : (ps : List (Param n)) → Denots (Rs ps) → Valss (Rs ps) → SProp 𝓤
      Others [] a vss = emp 𝓤
      Others (p ∷ ps) a vss = sep 𝓤 (sem 𝓛 ((p.slot.row (fore_lfts n κs)).own_val a.0 vss.0)) (Others ps a.1 vss.1)

      pub owns_out : (ps : List (Param n)) (a : Denots (Rs ps)) → ent 𝓤 (sem 𝓛 (owns (Rs ps) a (vals ps a))) (sep 𝓤 (sem 𝓛 ((Lent κs).own_val (behind ps a) (mut_vals (behind ps a)))) (Others ps a (vals ps a)))
      unfolding Others
      owns_out [] a = id⊢ 𝓤 (sem 𝓛 (owns (Rs []) a (vals [] a)))
      owns_out (p ∷ ps) a = out_past 𝓤 (sem 𝓛 ((p.slot.row (fore_lfts n κs)).own_val a.0 (p.spell (fore_lfts n κs) a.0))) (sem 𝓛 ((Lent κs).own_val (behind ps a.1) (mut_vals (behind ps a.1))))
          (Others ps a.1 (vals ps a.1)) (sem 𝓛 (owns (Rs ps) a.1 (vals ps a.1))) (owns_out ps a.1)

      pub owns_in : (ps : List (Param n)) (a : Denots (Rs ps)) (vss : Valss (Rs ps)) (us : List Val) → ent 𝓤 (sep 𝓤 (sem 𝓛 (R.own_val (behind ps a).now us)) (Others ps a vss)) (sem 𝓛 (owns (Rs' ps) (handed ps a) (handed_vals ps vss us)))
      unfolding Others
      owns_in [] a vss us = id⊢ 𝓤 (sem 𝓛 (owns (Rs' []) (handed [] a) (us, tt)))
      owns_in (p ∷ ps) a vss us = in_past 𝓤 (sem 𝓛 ((p.slot.row (fore_lfts n κs)).own_val a.0 vss.0)) (sem 𝓛 (R.own_val (behind ps a.1).now us))
          (Others ps a.1 vss.1) (sem 𝓛 (owns (Rs' ps) (handed ps a.1) (handed_vals ps vss.1 us))) (owns_in ps a.1 vss.1 us)

      pub lasts_in : (ps : List (Param n)) (a : Denots (Rs ps)) (ws : Fins (fore_lfts n κs) (hand_slots ps) (hand_kept ps) (handed ps a)) (h : R.Denot)
          → ent 𝓤 (sep 𝓤 (sem 𝓛 (left ((Lent κs).exit yes) (behind ps a) h)) (sem 𝓛 (Said ps a ws))) (sem 𝓛 (lasts_of κs (lent_slots ps) (lent_kept ps) a (left_behind ps a ws h)))
      lasts_in [] a ws h = mono_r 𝓤 (sem 𝓛 (left ((Lent κs).exit yes) a.0 h)) (top 𝓤 (sem 𝓛 (Said [] a ws)))
      lasts_in (p ∷ ps) a ws h = in_past 𝓤 (sem 𝓛 (left ((p.slot.row (fore_lfts n κs)).exit yes) a.0 ws.0)) (sem 𝓛 (left ((Lent κs).exit yes) (behind ps a.1) h)) (sem 𝓛 (Said ps a.1 ws.1))
          (sem 𝓛 (lasts_of κs (lent_slots ps) (lent_kept ps) a.1 (left_behind ps a.1 ws.1 h))) (lasts_in ps a.1 ws.1 h)
