-- `set_run` is a pass that nothing stops.
use Rattle.model.specs.RangedStates.{in_state}
use Rattle.texture_mips.proofs.{Passing.{Passing}, Painted.{never}}
use Rattle.texture_mips.proofs.painting.set_run.Given as goal

abbrev pub invariant-loop-k : goal.invariant-loop-k
invariant-loop-k l = Passing never (in_state l.state) l.initial.s l.from l.to l.s l.k
