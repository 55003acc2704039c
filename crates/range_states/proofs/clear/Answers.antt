-- Zeros are blank records.
use Rattle.range_states.proofs.Records.{cleared}
use Rattle.range_states.proofs.clear.Goals as goal

pub returns : goal.returns
returns c = cleared c.args.s.now c.args.from c.args.to c.requires.from_le_to c.requires.to_in_bounds (c.fill.ensures.after (λ y h. h))
