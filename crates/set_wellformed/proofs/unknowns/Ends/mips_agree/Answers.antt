-- `mips_agree` walks mip by mip.
use Rattle.std.proofs.Common.{rules}
use Rattle.set_wellformed.proofs.{Every.all_of}
use Rattle.set_wellformed.proofs.unknowns.Ends.mips_agree.Goals as goal

pub returns : goal.returns
returns c = all_of _ _ _ c.all.ensures.ran (λ k b y h. search rules)
