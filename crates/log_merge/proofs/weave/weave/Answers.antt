-- `weave` merges where both logs have entries; where one is empty the other is the rest.
use Rattle.std.proofs.Common.{rules}
use Rattle.log_merge.proofs.Weaving.{first_empty, second_empty}
use Rattle.log_merge.proofs.weave.weave.Goals as goal

pub returns-then-is_empty : goal.returns-then-is_empty
returns-then-is_empty c = first_empty c.requires (search rules)

pub returns-then-is_empty-2 : goal.returns-then-is_empty-2
returns-then-is_empty-2 c = second_empty c.requires (search rules) (search rules)
