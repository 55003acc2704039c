-- An error that `?` passes on.
use Rattle.std.specs.Prelude.{◌≡◌, IsErrAnd}
use Rattle.std.proofs.lemmas.Result.{err_from_is_err_and}
use Rattle.model.specs.Prelude.{Result, Err, ap, ◌∙◌}

-- it is the one that came, or what `From` makes of it
pub passed_on : {A E : Type 0} {r : Result A E} {e : E} → IsErrAnd r (λ y. y ≡ e) → r ≡ Err e
passed_on {r = r} w = let y = err_from_is_err_and r w in y.1 ∙ ap Err y.2
