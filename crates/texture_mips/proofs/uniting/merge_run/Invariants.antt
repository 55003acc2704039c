-- `merge_run` is a pass that a conflict stops.
use Rattle.texture_mips.specs.Merge.{run_stops, run_takes}
use Rattle.texture_mips.proofs.{Passing.{Passing}}
use Rattle.texture_mips.proofs.uniting.merge_run.Given as goal

abbrev pub invariant-loop-k : goal.invariant-loop-k
invariant-loop-k l = Passing (run_stops l.p l.new) (run_takes l.p l.new) l.initial.s l.from l.to l.s l.k
