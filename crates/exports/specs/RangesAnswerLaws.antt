-- Nothing is lost in the numbers of the calls on ranges either.
use Rattle.std.specs.Prelude.{◌≡◌}
use Rattle.model.specs.Prelude.{ℕ, refl, ap, Result, Ok, Err}
use Rattle.model.specs.{declared.Refusal.Refusal, CheckLaws.refusal_told}
use Rattle.range_calls.specs.declared.Isolation.{Isolation}
use Rattle.exports.specs.RangesAnswers.{isolate_as, coalesce_as, filter_as, isolate_in, coalesce_in, filter_in}

pub isolate_told_lem : (x : Result Isolation Refusal) → isolate_in (isolate_as x) ≡ x
isolate_told_lem (Err r) = ap (λ (y : Refusal). Err y) (refusal_told r)
isolate_told_lem (Ok i) = refl

pub coalesce_told_lem : (x : Result ℕ Refusal) → coalesce_in (coalesce_as x) ≡ x
coalesce_told_lem (Err r) = ap (λ (y : Refusal). Err y) (refusal_told r)
coalesce_told_lem (Ok n) = refl

pub filter_told_lem : (x : Result ℕ Refusal) → filter_in (filter_as x) ≡ x
filter_told_lem (Err r) = ap (λ (y : Refusal). Err y) (refusal_told r)
filter_told_lem (Ok n) = refl
