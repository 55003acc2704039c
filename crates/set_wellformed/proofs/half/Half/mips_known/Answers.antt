-- `mips_known` tests mip by mip.
use Rattle.std.proofs.Common.{rules}
use Rattle.set_storage.specs.Storage.{numbers_of}
use Rattle.set_wellformed.proofs.{Every.all_of, Mips.mips_are}
use Rattle.set_wellformed.proofs.half.Half.mips_known.Goals as goal

pub returns : goal.returns
returns c =
    rw (mips_are (numbers_of c.args.self.now.table.now) _ _ c.requires.texture.top)
    (all_of _ _ _ c.all.ensures.ran (λ k b y h. search rules))
