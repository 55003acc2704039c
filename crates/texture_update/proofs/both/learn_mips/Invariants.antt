-- `learn_mips`: each lap lets the next mip of the start learn.
use Rattle.set_storage.specs.Storage.{numbers_of, start_half}
use Rattle.texture_merge.specs.Walks.{MipWalk}
use Rattle.texture_update.proofs.Lessons.{lesson}
use Rattle.texture_update.proofs.both.learn_mips.Given as goal

abbrev pub invariant-loop-m : goal.invariant-loop-m
invariant-loop-m l = MipWalk (lesson l.unknown l.new l.initial.table l.ends l.i) (numbers_of l.initial.table) start_half l.i l.initial.table
    l.initial.starts l.m l.table l.starts
