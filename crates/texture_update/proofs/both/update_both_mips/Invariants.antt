-- `update_both_mips`: each lap changes the next mip of the selector in both halves.
use Rattle.texture_update.proofs.Turns.{Turning}
use Rattle.texture_update.proofs.both.update_both_mips.Given as goal

abbrev pub invariant-loop-m : goal.invariant-loop-m
invariant-loop-m l = Turning l.unknown l.new l.q l.i l.initial.table l.initial.starts l.initial.ends l.m l.table l.starts l.ends
