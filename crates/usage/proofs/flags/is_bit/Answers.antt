-- `is_bit` is the definition's two tests.
use Rattle.usage.proofs.flags.is_bit.Goals as goal

pub returns : goal.returns
returns c = rw c.one_bit.ensures
