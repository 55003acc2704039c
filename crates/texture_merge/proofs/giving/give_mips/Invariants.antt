-- `give_mips`: each lap gives one mip, and what is left decides.
use Rattle.model.specs.Prelude.{get_or, drop}
use Rattle.model.specs.{Texture.pieces_of, Base.passes}
use Rattle.set_storage.specs.{Storage.{numbers_of, mips_of, layers_at}, Stored.mips_stored}
use Rattle.texture_merge.specs.Giving.{Giving, pieces_from}
use Rattle.texture_merge.proofs.giving.give_mips.Given as goal

abbrev pub invariant-loop-m : goal.invariant-loop-m
invariant-loop-m g l = Giving l.half l.given.i (get_or l.initial.table (layers_at l.given.i) 0) (passes (g.D.Doing.does l.doing l.p)
    (pieces_of (mips_stored l.given)) (mips_of (numbers_of l.initial.table) l.half l.initial.table l.initial.ranges l.given.i))
    l.initial.table l.initial.ranges (passes (g.D.Doing.does l.doing l.p) (pieces_from l.m (drop l.m (mips_stored l.given)))) l.table
    l.ranges
