-- `flags_fit_by` is the definition's two tests.
use Rattle.model.specs.Flags.{flags_fit}
use Rattle.usage.proofs.flags.flags_fit_by.Goals as goal

pub returns : goal.returns
unfolding flags_fit
returns c = rw (c.is_bit.ensures, c.apart.ensures)
