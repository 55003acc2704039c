-- `merge_every_mips`: each lap is a step of the model's walk over the mips, up to the first conflict.
use Rattle.model.specs.Texture.{merge_every}
use Rattle.set_storage.specs.Storage.{numbers_of}
use Rattle.texture_merge.specs.Walks.{MipWalk}
use Rattle.texture_merge.proofs.every.merge_every_mips.Given as goal

abbrev pub invariant-loop-m : goal.invariant-loop-m
invariant-loop-m l = MipWalk (merge_every l.p l.new) (numbers_of l.initial.table) l.half l.i l.initial.table
    l.initial.ranges l.m l.table l.ranges
