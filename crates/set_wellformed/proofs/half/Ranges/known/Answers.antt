-- `known` tests range by range; the first that is UNKNOWN decides.
use Rattle.set_wellformed.proofs.Known.{knowing_stop}
use Rattle.set_wellformed.proofs.half.Ranges.known.Goals as goal

pub returns-then-get-u : goal.returns-then-get-u
returns-then-get-u c = knowing_stop c.args.self.now.room c.loop-k.invariant c.loop-k-test.true c.get.ensures c.if-get-u.true
