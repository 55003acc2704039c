-- Where a walk stands: the tables over which a function's code is read, in an environment that says what each call in it means, with the rules of the logic there.
--     rules, tables_at     the rules, and the tables.        known        a callee's theorem, at the name by which the code calls it
--     proves       what holds of the code holds of the function
use Rattle.std.specs.Prelude.{◌≡◌}
use seplogic.Ra.Ura.{Ura}
use mir.Syntax.{Callee, Fn}
use prog.Model.{Model}
use prog.Routine.{Routine, Env}
use prog.Wp.{Heap, WpFn, Closed, Tables}
use types.Logic.{Logic}
use contract.Running.{Running, tables, tables_of}
use denote.Triple.Statement.{Contract, Triple}
use denote.Triple.Table.{entered, cited}

module _ {M : Type 1} {𝓤 : Ura M} (𝓛 : Logic 𝓤) (𝓜 : Model 𝓤 𝓛.H) where
  abbrev pub rules : Logic 𝓤
  rules = 𝓛

module _ {M : Type 1} (𝓤 : Ura M) (H : Heap 𝓤) (𝓜 : Model 𝓤 H) (𝓡 : Running 𝓤 H 𝓜) (γ : Env) where
  pub tables_at : Tables 𝓤 H
  tables_at = tables_of 𝓤 H 𝓜 (tables 𝓤 H 𝓜 𝓡 γ)

  pub known : {c : Contract 𝓤} {k : Callee} {r : Routine} → γ k ≡ r → Triple 𝓤 (𝓡.run r) c → Triple 𝓤 (tables_at.C k) c
  unfolding tables_at tables_of
  known {c} {k} {r} e met = cited 𝓤 H c 𝓜 𝓡 γ k r e met

  pub proves : (c : Contract 𝓤) (k : Callee) (f : Fn) → Closed 𝓤 H (tables 𝓤 H 𝓜 𝓡 γ).C (tables 𝓤 H 𝓜 𝓡 γ).Λ k f → Triple 𝓤 (WpFn 𝓤 H tables_at.C tables_at.Λ f) c → Triple 𝓤 (𝓡.run (γ k)) c
  unfolding tables_at tables_of
  proves c k f closed met = entered 𝓤 H c (tables 𝓤 H 𝓜 𝓡 γ).C (tables 𝓤 H 𝓜 𝓡 γ).Λ k f closed met
