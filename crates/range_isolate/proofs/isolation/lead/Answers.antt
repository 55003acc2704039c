-- `lead` looks at the record at `pos`, if there is one.
use Rattle.range_isolate.proofs.Counting.{lead_end, lead_is}
use Rattle.range_isolate.proofs.isolation.lead.Goals as goal

pub returns-then-pos-len : goal.returns-then-pos-len
returns-then-pos-len c = search lead_end

pub returns : goal.returns
returns c = lead_is c.requires.len_in_bounds c.requires.pos_le_len c.if-pos-len.false c.get.ensures c.from.ensures
