-- A function's parameters, each with what its walk needs at entry and at exit, and the way from a walk to the function's contract.
--     Param        a parameter: its slot, what the proof has of it at exit, how its value is spelled, and that the spelling is of its type
--     by_value     plain data, of which nothing is had at exit
--     shared, shared_ref       a `&'j [R]` and a `&'j R`, likewise
--     lent         a `&'j mut [R]` that is still owned at exit.        given, given_ref     one, and a `&'j mut R`, that the body gave to a callee for good
--     Function     a function with such parameters.        args, Walks, Post    its machine values, a walk of its code from the entry, and what it ends in.        free         nothing is required
--     ends         a walk's end: the tokens and what is had of the parameters are left to show.        bare         nothing is had of one
--     settled      no update is left to make.        proved       a walk of the code proves the function
-- Assumes `Logic`.
use Rattle.std.specs.Prelude.{◌≡◌, refl, ℕ, List, [], ◌∷◌}
use Rattle.std.proofs.Common.{sym, subst}
use seplogic.Ra.Ura.{Ura}
use mir.Syntax.{Callee, Fn}
use mir.Val.{Val}
use base.Logic.{SProp, ent, sep, emp, id⊢, via, fst∗}
use Rattle.std.specs.Borrow.{Fml, ftrue, fsep}
use prog.Model.{Model}
use prog.Memory.{Memory}
use prog.Routine.{Routine, Env}
use prog.Wp.{WpFn, Closed}
use types.Logic.{Logic, sem}
use contract.Lifetimes.{Lfts, Shares, toks}
use contract.Monad.{Fun}
use contract.Running.{Running, tables}
use types.Kit.{Item, ‵, raw, Goal, prop, upd, Step, step, ◌$◌, ◌∵◌, !, qed, by, use0, move, join, suffices, frame, fjoin}
use sound.WpLaws.{WpFn-mono}
use denote.Exit.{yes, Exit, Last, left}
use denote.RattleType.{RattleType, Denots, Valss, flat}
use denote.Laws.{Is, Tells, Ises, Are, Spells, valss, Tellss, Lawful}
use denote.Ref.{shr_vals, mut_vals, mut_Tells, shr_Tells, mut_Lawful, shr_Lawful}
use denote.Slice.{shr_slice_vals, mut_slice_vals, shr_slice_Tells, mut_slice_Tells, shr_slice_Lawful, mut_slice_Lawful}
use denote.Steps.{nothing}
use denote.Signature.{Slot, AllWithin, plain, shr_ref_to, mut_ref_to, shr_slice_of, mut_slice_of, name_of, meet_at, type_at, types_at}
use denote.Triple.End.{Kepts}
use denote.Triple.Entry.{on_entry}
use denote.Triple.Clauses.{Ended, Clauses, Lasts, at_exit, closing}
use denote.Triple.Spec.{Meets, triple_of}
use denote.Triple.Walked.{Stay, stay_dropped, stay_slice, gave_slice, gave_ref, Stays, Fit, has_of, Goes, Goes-dropped, Goes-slice, Goes-gave_slice, Goes-gave_ref, AllGo, walk_of, ends_at, walked, walk_Meets}
use Rattle.walk.specs.Site.{rules, tables_at, proves}
use Rattle.walk.specs.Values.{Data, owned_by}

pub record Param (n : ℕ) : Type 2 where
  pub slot : Slot n
  pub stay : Stay slot yes
  pub goes : (M : Type 1) (𝓤 : Ura M) (𝓛 : Logic 𝓤) → Goes 𝓛 n slot yes stay
  pub spell : (κs : Lfts n) → (slot.row κs).Denot → List Val
  pub tells : (κs : Lfts n) → Tells (slot.row κs) (Is (slot.row κs)) (spell κs)
  pub lawful : (κs : Lfts n) (M : Type 1) (𝓤 : Ura M) (𝓛 : Logic 𝓤) → Lawful 𝓛 (slot.row κs)

module _ {n : ℕ} where
  -- of which nothing is said, and nothing is had at exit
  abbrev dropped : (s : Slot n) → ((κs : Lfts n) (x : (s.row κs).Denot) (f : Last ((s.row κs).exit yes) x) → left ((s.row κs).exit yes) x f ≡ ftrue) → (spell : (κs : Lfts n) → (s.row κs).Denot → List Val)
      → ((κs : Lfts n) → Tells (s.row κs) (Is (s.row κs)) (spell κs)) → ((κs : Lfts n) (M : Type 1) (𝓤 : Ura M) (𝓛 : Logic 𝓤) → Lawful 𝓛 (s.row κs)) → Param n
  dropped s silent spell tells lawful = record { slot = s; stay = stay_dropped s yes; goes = λ M 𝓤 𝓛. Goes-dropped 𝓛 n s yes silent; spell = spell; tells = tells; lawful = lawful }

  abbrev pub by_value : {R : RattleType} → Data R → Param n
  by_value {R} D = dropped (plain (λ _. R)) (λ κs x f. subst (λ (e : Exit R.Denot). (w : Last e x) → left e x w ≡ ftrue) (sym (D.still yes)) (λ w. refl) f) (λ κs x. D.val x ∷ []) (λ κs. D.tells) (λ κs. D.lawful)

  module _ (R : RattleType) (j : ℕ) (ok : AllWithin n (j ∷ [])) where
    abbrev pub shared : Param n
    shared = dropped (shr_slice_of (j ∷ []) ok (plain (λ _. R))) (λ κs x f. refl) (λ κs. shr_slice_vals) (λ κs. shr_slice_Tells (name_of (j ∷ [])) (meet_at n (j ∷ []) ok κs) R)
        (λ κs M 𝓤 𝓛. shr_slice_Lawful 𝓛 (name_of (j ∷ [])) (meet_at n (j ∷ []) ok κs) R)

    abbrev pub shared_ref : Param n
    shared_ref = dropped (shr_ref_to (j ∷ []) ok (plain (λ _. R))) (λ κs x f. refl) (λ κs. shr_vals) (λ κs. shr_Tells (name_of (j ∷ [])) (meet_at n (j ∷ []) ok κs) R)
        (λ κs M 𝓤 𝓛. shr_Lawful 𝓛 (name_of (j ∷ [])) (meet_at n (j ∷ []) ok κs) R)

    -- a `&'j mut [R]`, of which the body has at exit what `stay` says
    abbrev of_slice : (s : Stay (mut_slice_of (j ∷ []) ok (plain (λ _. R))) yes) → ((M : Type 1) (𝓤 : Ura M) (𝓛 : Logic 𝓤) → Goes 𝓛 n (mut_slice_of (j ∷ []) ok (plain (λ _. R))) yes s) → Param n
    of_slice s goes = record {
      slot = mut_slice_of (j ∷ []) ok (plain (λ _. R));
      stay = s;
      goes = goes;
      spell = λ κs. mut_slice_vals;
      tells = λ κs. mut_slice_Tells (name_of (j ∷ [])) (meet_at n (j ∷ []) ok κs) R;
      lawful = λ κs M 𝓤 𝓛. mut_slice_Lawful 𝓛 (name_of (j ∷ [])) (meet_at n (j ∷ []) ok κs) R;
    }

    abbrev pub lent : Param n
    lent = of_slice (stay_slice (j ∷ []) ok (plain (λ _. R))) (λ M 𝓤 𝓛. Goes-slice 𝓛 n j ok (plain (λ _. R)))

    abbrev pub given : Param n
    given = of_slice (gave_slice (j ∷ []) ok (plain (λ _. R))) (λ M 𝓤 𝓛. Goes-gave_slice 𝓛 n j ok (plain (λ _. R)))

    abbrev pub given_ref : Param n
    given_ref = record {
      slot = mut_ref_to (j ∷ []) ok (plain (λ _. R));
      stay = gave_ref (j ∷ []) ok (plain (λ _. R));
      goes = λ M 𝓤 𝓛. Goes-gave_ref 𝓛 n j ok (plain (λ _. R));
      spell = λ κs. mut_vals;
      tells = λ κs. mut_Tells (name_of (j ∷ [])) (meet_at n (j ∷ []) ok κs) R;
      lawful = λ κs M 𝓤 𝓛. mut_Lawful 𝓛 (name_of (j ∷ [])) (meet_at n (j ∷ []) ok κs) R;
    }

  -- ---- of a list of parameters
  abbrev pub slots : List (Param n) → List (Slot n)
  slots [] = []
  slots (p ∷ ps) = p.slot ∷ slots ps

  abbrev pub kepts : (ps : List (Param n)) → Kepts (slots ps)
  kepts [] = tt
  kepts (p ∷ ps) = (yes, kepts ps)

  abbrev pub stays : (ps : List (Param n)) → Stays (slots ps) (kepts ps)
  stays [] = tt
  stays (p ∷ ps) = (p.stay, stays ps)

  abbrev pub spells : (ps : List (Param n)) (κs : Lfts n) → Spells (types_at (slots ps) κs)
  spells [] κs = tt
  spells (p ∷ ps) κs = (p.spell κs, spells ps κs)

  all_tell : (ps : List (Param n)) (κs : Lfts n) → Tellss (types_at (slots ps) κs) (Ises (types_at (slots ps) κs)) (spells ps κs)
  all_tell [] κs = tt
  all_tell (p ∷ ps) κs = (p.tells κs, all_tell ps κs)

  module _ {M : Type 1} {𝓤 : Ura M} (𝓛 : Logic 𝓤) where
    all_go : (ps : List (Param n)) → AllGo 𝓛 n (slots ps) (kepts ps) (stays ps)
    all_go [] = tt
    all_go (p ∷ ps) = (p.goes M 𝓤 𝓛, all_go ps)

  abbrev Taking : List (Param n) → Slot n → Ended
  Taking ps result = record { signature = record { lifetimes = n; outlives = []; params = slots ps; result = result }; kept = kepts ps }

-- ---- a function, and a walk of it at the lifetimes κs and the arguments a
pub record Function (n : ℕ) : Type 3 where
  pub params : List (Param n)
  pub result : Slot n
  pub clauses : {M : Type 1} {𝓤 : Ura M} (𝓛 : Logic 𝓤) (mem : Memory → SProp 𝓤) (run : Routine → Fun 𝓤) → Clauses 𝓤 (Taking params result)

module _ {n : ℕ} (F : Function n) where
  abbrev T : Ended
  T = Taking F.params F.result

  abbrev Rs : Lfts n → List RattleType
  Rs κs = types_at (slots F.params) κs

  abbrev vals : (κs : Lfts n) → Denots (Rs κs) → Valss (Rs κs)
  vals κs a = valss (Rs κs) (spells F.params κs) a

  abbrev pub args : (κs : Lfts n) → Denots (Rs κs) → List Val
  args κs a = flat (Rs κs) (vals κs a)

  module _ {M : Type 1} {𝓤 : Ura M} (𝓛 : Logic 𝓤) (𝓜 : Model 𝓤 𝓛.H) (𝓡 : Running 𝓤 𝓛.H 𝓜) where
    open 𝓛 use {H}

    abbrev c : Clauses 𝓤 T
    c = F.clauses 𝓛 𝓜.mem 𝓡.returns

    module _ (κs : Lfts n) (qs : Shares n) (a : Denots (Rs κs)) (g : (c κs a).ghost) where
      abbrev pub Post : Val → SProp 𝓤
      Post = (walk_of 𝓛 T (stays F.params) c).post ((κs, qs, tt, a, vals κs a), g)

      abbrev Entry : SProp 𝓤
      Entry = on_entry 𝓛 T.signature κs qs a (vals κs a)

      -- the code f, read over γ, goes from P to what is owed
      abbrev Goes_from : SProp 𝓤 → Env → Fn → Type 1
      Goes_from P γ f = ent 𝓤 P (WpFn 𝓤 H (tables_at 𝓤 H 𝓜 𝓡 γ).C (tables_at 𝓤 H 𝓜 𝓡 γ).Λ f (args κs a) Post)

      abbrev pub Walks : Env → Fn → Type 1
      Walks = Goes_from Entry

      pub free : (γ : Env) (f : Fn) → Walks γ f → Goes_from (sep 𝓤 Entry ((c κs a).requires g)) γ f
      free γ f walk = via 𝓤 Entry (fst∗ 𝓤 Entry ((c κs a).requires g)) walk

      -- what is left to show at the last values ws
      abbrev Left : Lasts T κs a → SProp 𝓤
      Left ws = sep 𝓤 (toks 𝓛 n κs qs) (sem 𝓛 (has_of κs (slots F.params) (kepts F.params) (stays F.params) a ws (vals κs a)))

      pub ends : {K : Type 0} {Γ : List (Item 𝓤)} → K → (D : Data (type_at F.result κs)) (r : (type_at F.result κs).Denot) → Is (type_at F.result κs) r (D.val r ∷ []) → (ws : Lasts T κs a) → Fit T (stays F.params) κs a ws
          → ent 𝓤 (emp 𝓤) ((c κs a).ensures g r (at_exit T κs a ws)) → Step K (rules 𝓛 𝓜) Γ (prop (Left ws)) Γ (prop (Post (D.val r)))
      ends t D r is ws fit told = suffices t (Left ws) (qed (rules 𝓛 𝓜) (raw (toks 𝓛 n κs qs) ∷ ‵ (has_of κs (slots F.params) (kepts F.params) (stays F.params) a ws (vals κs a)) ∷ []) ∵
          suffices ! _ (ends_at 𝓛 T (stays F.params) c ((κs, qs, tt, a, vals κs a), g) (D.val r) r ws fit) $ use0 (rules 𝓛 𝓜) (raw ((c κs a).ensures g r (at_exit T κs a ws))) told $ owned_by ! D r is $
          -- [the result; what is ensured; the tokens; what is had]
          move ! (3 ∷ 0 ∷ []) $ join ! $ move ! (2 ∷ 0 ∷ []) $ join ! $ frame ! $ by ! (id⊢ 𝓤 _))

    pub proved : (γ : Env) (k : Callee) (f : Fn) → Closed 𝓤 H (tables 𝓤 H 𝓜 𝓡 γ).C (tables 𝓤 H 𝓜 𝓡 γ).Λ k f
        → ((κs : Lfts n) (qs : Shares n) (a : Denots (Rs κs)) (g : (c κs a).ghost) → Are (Rs κs) (Ises (Rs κs)) a (vals κs a) → Goes_from κs qs a g (sep 𝓤 (Entry κs qs a g) ((c κs a).requires g)) γ f)
        → Meets 𝓛 T.signature (𝓡.run (γ k)) (closing 𝓛 T c)
    proved γ k f closed walk =
        let A = 𝓛.A in
        let W = rules 𝓛 𝓜 in
        let 𝓣 = tables_at 𝓤 H 𝓜 𝓡 γ in
        let hs = stays F.params in
        proves 𝓤 H 𝓜 𝓡 γ (triple_of 𝓛 T.signature (closing 𝓛 T c)) k f closed (walk_Meets 𝓛 T hs (all_go 𝓛 F.params) c (WpFn 𝓤 H 𝓣.C 𝓣.Λ f) (WpFn-mono 𝓤 H W.laws 𝓣 f)
        (walked 𝓛 T hs c (WpFn 𝓤 H 𝓣.C 𝓣.Λ f) (spells F.params) (all_tell F.params) (λ κs qs bounds. walk κs qs)))

module _ {M : Type 1} {𝓤 : Ura M} {𝓛 : Logic 𝓤} {K : Type 0} {Γ : List (Item 𝓤)} where
  open 𝓛 use {H}

  pub bare : K → {P : Fml} {G : Goal 𝓤 H} → Step K 𝓛 (‵ (fsep ftrue P) ∷ Γ) G (‵ P ∷ Γ) G
  bare t = step (λ s. nothing t $ fjoin t $ s)

  pub settled : K → {P : SProp 𝓤} → Step K 𝓛 Γ (prop (H.⇛ P)) Γ (upd P)
  settled t = step (λ s. record { prf = s.prf })
