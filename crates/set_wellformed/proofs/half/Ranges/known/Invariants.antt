-- `known` tests range by range; the first that is UNKNOWN decides.
use Rattle.set_wellformed.proofs.Known.{Knowing}
use Rattle.set_wellformed.proofs.half.Ranges.known.Given as goal

abbrev pub invariant-loop-k : goal.invariant-loop-k
invariant-loop-k l = Knowing l.u l.self.numbers.now l.self.len l.k
