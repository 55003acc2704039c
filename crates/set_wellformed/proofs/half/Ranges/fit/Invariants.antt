-- `fit` tests range by range; the first that does not fit decides.
use Rattle.set_wellformed.proofs.Tiling.{Tiling}
use Rattle.set_wellformed.proofs.half.Ranges.fit.Given as goal

abbrev pub invariant-loop-k : goal.invariant-loop-k
invariant-loop-k l = Tiling l.p l.layers l.self.numbers.now l.self.len l.at l.k
