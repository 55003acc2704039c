-- `apart` is the definition's chain of tests.
use Rattle.usage.proofs.flags.apart.Goals as goal

pub returns : goal.returns
returns c =
    rw (c.is_bit.ensures, c.is_bit-2.ensures, c.meets.ensures, c.meets-2.ensures)
