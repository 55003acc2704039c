-- A function that requires nothing and passes its parameters on for good: what a walk of its code ends in, and that it proves the function.
--     Owed         what is owed at exit.        pays         it is had: the tokens, the result, what is said of the last values, and what is ensured
--     passed_on    a walk of the code, with the machine values of the parameters written out, proves the function
use seplogic.Ra.Ura.{Ura}
use mir.Syntax.{Callee, Fn}
use mir.Val.{Val}
use base.Logic.{SProp, ent, sep, ex, via, fst∗, mono_r, ex_i}
use prog.Model.{Model}
use prog.Routine.{Env}
use prog.Wp.{WpFn, Closed}
use types.Logic.{Logic, sem}
use contract.Lifetimes.{Lfts}
use contract.Running.{Running, tables}
use denote.RattleType.{flat}
use denote.Laws.{Are, Ises, Spells, valss, Tellss}
use denote.Signature.{Signature, types_at}
use denote.Steps.{said}
use denote.Triple.Clauses.{Clauses, Ended, Lasts, at_exit, lasts, closing}
use denote.Triple.Entry.{Res, on_entry}
use denote.Triple.Statement.{Contract}
use denote.Triple.Spec.{Back, triple_of, Meets}
use Rattle.walk.specs.Site.{tables_at, proves}

module _ {M : Type 1} {𝓤 : Ura M} (𝓛 : Logic 𝓤) (T : Ended) where
  open 𝓛 use {H}

  abbrev S : Signature
  S = T.signature

  abbrev pub Owed : Clauses 𝓤 T → Contract 𝓤
  Owed c = triple_of 𝓛 S (closing 𝓛 T c)

  module _ (c : Clauses 𝓤 T) (y : (Owed c).Ghost) where
    abbrev Said : Res S y.0.0 → Lasts T y.0.0 y.0.3 → SProp 𝓤
    Said r ws = sep 𝓤 (sem 𝓛 (lasts T y.0.0 y.0.3 ws)) ((c y.0.0 y.0.3).ensures y.1 r (at_exit T y.0.0 y.0.3 ws))

    abbrev Ends : Val → Res S y.0.0 → SProp 𝓤
    Ends v r = sep 𝓤 (Back 𝓛 S y.0 v r) (ex 𝓤 (Said r))

    pub pays : (v : Val) (r : Res S y.0.0) (ws : Lasts T y.0.0 y.0.3) → ent 𝓤 (sep 𝓤 (Back 𝓛 S y.0 v r) (Said r ws)) ((Owed c).post y v)
    pays v r ws = via 𝓤 (ex 𝓤 (Ends v)) (via 𝓤 (Ends v r) (mono_r 𝓤 (Back 𝓛 S y.0 v r) (ex_i 𝓤 (Said r) ws)) (ex_i 𝓤 (Ends v) r)) (𝓛.laws.⇛_intro (ex 𝓤 (Ends v)))

  module _ (𝓜 : Model 𝓤 H) (𝓡 : Running 𝓤 H 𝓜) (γ : Env) (sp : (κs : Lfts S.lifetimes) → Spells (types_at S.params κs)) where
    pub passed_on : ((κs : Lfts S.lifetimes) → Tellss (types_at S.params κs) (Ises (types_at S.params κs)) (sp κs)) → (c : Clauses 𝓤 T) (k : Callee) (f : Fn) → Closed 𝓤 H (tables 𝓤 H 𝓜 𝓡 γ).C (tables 𝓤 H 𝓜 𝓡 γ).Λ k f
        → ((y : (Owed c).Ghost) → Are (types_at S.params y.0.0) (Ises (types_at S.params y.0.0)) y.0.3 (valss (types_at S.params y.0.0) (sp y.0.0) y.0.3)
        → ent 𝓤 (on_entry 𝓛 S y.0.0 y.0.1 y.0.3 (valss (types_at S.params y.0.0) (sp y.0.0) y.0.3))
        (WpFn 𝓤 H (tables_at 𝓤 H 𝓜 𝓡 γ).C (tables_at 𝓤 H 𝓜 𝓡 γ).Λ f (flat (types_at S.params y.0.0) (valss (types_at S.params y.0.0) (sp y.0.0) y.0.3))
        ((Owed c).post ((y.0.0, y.0.1, y.0.2, y.0.3, valss (types_at S.params y.0.0) (sp y.0.0) y.0.3), y.1))))
        → Meets 𝓛 S (𝓡.run (γ k)) (closing 𝓛 T c)
    passed_on tells c k f closed walk = proves 𝓤 H 𝓜 𝓡 γ (Owed c) k f closed (λ y.
        via 𝓤 (on_entry 𝓛 S y.0.0 y.0.1 y.0.3 y.0.4) (fst∗ 𝓤 (on_entry 𝓛 S y.0.0 y.0.1 y.0.3 y.0.4) ((c y.0.0 y.0.3).requires y.1))
        (said 𝓛 S y.0.0 y.0.1 (sp y.0.0) (tells y.0.0) y.0.3
        (λ us. WpFn 𝓤 H (tables_at 𝓤 H 𝓜 𝓡 γ).C (tables_at 𝓤 H 𝓜 𝓡 γ).Λ f (flat (types_at S.params y.0.0) us) ((Owed c).post ((y.0.0, y.0.1, y.0.2, y.0.3, us), y.1))) y.0.4 (walk y)))
