-- `head_fits` is the three tests, in order; the numbers' limits come before their product.
use Rattle.model.specs.Prelude.{sym, ◌∙◌}
use Rattle.std.proofs.Common.{rules}
use Rattle.set_wellformed.specs.Parts.{head_fits}
use Rattle.set_wellformed.proofs.head_fits.Goals as goal
use Rattle.set_wellformed.proofs.head_fits.Goals.{then-numbers_fit, else-numbers_fit}

pub returns-then-flags_fit_by : goal.returns-then-flags_fit_by
unfolding head_fits
returns-then-flags_fit_by c =
    elim c.if-numbers_fit.branch [
      | then-numbers_fit w ↦ rw (
        sym c.numbers_fit.ensures ∙ w.if-numbers_fit.true,
        rw w.flags_of.ensures at (sym w.flags_fit_by.ensures ∙ sym w.value-is ∙ c.if-flags_fit_by.true),
      ) c.room_fits.ensures
      | else-numbers_fit w ↦ search rules
    ]

pub returns-else-flags_fit_by : goal.returns-else-flags_fit_by
unfolding head_fits
returns-else-flags_fit_by c =
    elim c.if-numbers_fit.branch [
      | then-numbers_fit w ↦ rw (
        sym c.numbers_fit.ensures ∙ w.if-numbers_fit.true,
        rw w.flags_of.ensures at (sym w.flags_fit_by.ensures ∙ sym w.value-is ∙ c.if-flags_fit_by.false),
      ) c.if-flags_fit_by.false
      | else-numbers_fit w ↦ rw (sym c.numbers_fit.ensures ∙ w.if-numbers_fit.false) c.if-flags_fit_by.false
    ]
