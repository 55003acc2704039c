-- `merge_mips`: each lap is a step of the model's walk over the mips of the selector, up to the first conflict.
use Rattle.model.specs.Representation.{layer_start, layer_end}
use Rattle.texture_mips.specs.Merge.{merge_run}
use Rattle.texture_merge.proofs.Laps.{SelectorLap}
use Rattle.texture_merge.proofs.every.merge_mips.Given as goal

abbrev pub invariant-loop-m : goal.invariant-loop-m
invariant-loop-m l = SelectorLap l.fn.q (λ k. merge_run l.p k (layer_start l.fn.q) (layer_end l.fn.q) l.new) l.half l.i l.initial.table
    l.initial.ranges l.m l.table l.ranges
