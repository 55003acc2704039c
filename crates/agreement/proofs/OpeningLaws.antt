-- An opening that is not refused has numbers and flags that fit.
use Rattle.std.specs.Prelude.{◌≡◌, if◌then◌else◌}
use Rattle.model.specs.Prelude.{refl, Bool, true, false, not, false≢true, Option, Some}
use Rattle.model.specs.{declared.Refusal.Refusal, declared.Refusal.TheVariants.{NumbersOutOfLimits, FlagsBreakRule}}
use Rattle.model.specs.{Flags.flags_fit, Sets.{Opening, numbers_fit}, Refusals.{first_failing, opening_refusal, accepted, opens}}

first_two : (a b : Bool) (more : Option Refusal)
    → accepted (if not a then Some NumbersOutOfLimits else if not b then Some FlagsBreakRule else more) ≡ true → (a ≡ true) × (b ≡ true)
first_two true true more e = (refl, refl)
first_two true false more e = absurd (false≢true e)
first_two false b more e = absurd (false≢true e)

both : (o : Opening) → opens o ≡ true → (numbers_fit o.numbers ≡ true) × (flags_fit o.flags ≡ true)
unfolding opening_refusal first_failing
both o e = first_two (numbers_fit o.numbers) (flags_fit o.flags) _ e

pub opened_numbers : (o : Opening) → opens o ≡ true → numbers_fit o.numbers ≡ true
opened_numbers o e = (both o e).0

pub opened_fits : (o : Opening) → opens o ≡ true → flags_fit o.flags ≡ true
opened_fits o e = (both o e).1
