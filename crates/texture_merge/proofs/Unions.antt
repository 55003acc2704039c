-- What `unite(..).ok_or(..)?` shows where it stops: there is no union, and the error is the one that was handed in.
use Rattle.std.specs.Prelude.{◌≡◌}
use Rattle.std.proofs.Common.{ok_or}
use Rattle.model.specs.Prelude.{ℕ, refl, Option, None, Some, Result, Err}
use Rattle.model.specs.declared.InvalidUse.{InvalidUse}

pub no_union : {o : Option ℕ} {x e : InvalidUse} {r : Result ℕ InvalidUse} → r ≡ ok_or o x → r ≡ Err e → (o ≡ None) × (e ≡ x)
no_union {o = None} a b = (refl, cc)
no_union {o = Some u} a b = absurd (cc)
