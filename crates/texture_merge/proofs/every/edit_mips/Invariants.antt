-- `edit_mips`: each mip of the selector is edited.
use Rattle.model.specs.{Base.fine, Representation.{layer_start, layer_end}}
use Rattle.texture_merge.proofs.Laps.{SelectorLap}
use Rattle.texture_merge.proofs.every.edit_mips.Given as goal

abbrev pub invariant-loop-m : goal.invariant-loop-m
invariant-loop-m g l =
    SelectorLap l.fn.q (λ k x. fine (g.E.Edit.edit l.unknown (layer_start l.fn.q) (layer_end l.fn.q) l.state x)) l.half l.i
    l.initial.table l.initial.ranges l.m l.table l.ranges
