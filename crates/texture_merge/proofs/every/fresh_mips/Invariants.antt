-- `fresh_mips`: each lap makes the next mip anew, and after the last lap all are.
use Rattle.model.specs.Prelude.{[]}
use Rattle.model.specs.{Base.fine, RangedStates.range}
use Rattle.std.specs.Prelude.{◌∷◌}
use Rattle.set_storage.specs.Storage.{numbers_of}
use Rattle.texture_merge.specs.Walks.{MipWalk}
use Rattle.texture_merge.proofs.every.fresh_mips.Given as goal

abbrev pub invariant-loop-m : goal.invariant-loop-m
invariant-loop-m l = MipWalk (λ k s. fine (range 0 l.extent.layers l.state ∷ [])) (numbers_of l.initial.table) l.half l.i l.initial.table
    l.initial.ranges l.m l.table l.ranges
