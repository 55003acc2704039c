-- `give_mip`: each lap gives one range, and what is left decides.
use Rattle.model.specs.Prelude.{map, get_or, drop}
use Rattle.model.specs.Base.{passes}
use Rattle.set_storage.specs.Storage.{numbers_of, mips_of, layers_at}
use Rattle.range_states.specs.View.{decode}
use Rattle.texture_merge.specs.Giving.{Giving, piece_on}
use Rattle.texture_merge.proofs.giving.give_mip.Given as goal

abbrev pub invariant-loop-k : goal.invariant-loop-k
invariant-loop-k g l = Giving l.half l.i (get_or l.initial.table (layers_at l.i) 0) (passes (g.D.Doing.does l.doing l.p)
    (map (piece_on l.m) (decode l.run.len l.run.records.now))
    (mips_of (numbers_of l.initial.table) l.half l.initial.table l.initial.ranges l.i))
    l.initial.table l.initial.ranges
    (passes (g.D.Doing.does l.doing l.p) (map (piece_on l.m) (drop l.k (decode l.run.len l.run.records.now)))) l.table
    l.ranges
