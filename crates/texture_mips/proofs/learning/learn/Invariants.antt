-- `learn` updates the mip range by range of the end.
use Rattle.texture_mips.proofs.Learnt.{Learning}
use Rattle.texture_mips.proofs.learning.learn.Given as goal

abbrev pub invariant-loop-k : goal.invariant-loop-k
invariant-loop-k l = Learning l.initial.s l.len l.ends l.from l.to l.unknown l.new l.s l.n l.k
