-- `check_sparse`: the first check that fails is told.
use Rattle.std.proofs.Common.{rules}
use Rattle.set_checks.proofs.{Firsts.{sparse_stops}}
use Rattle.set_checks.proofs.sets.check_sparse.Goals as goal

pub returns-in_err-check_listed : goal.returns-in_err-check_listed
returns-in_err-check_listed c =
    sparse_stops (search rules) c.loop-i-test.true c.loop-i.invariant c.in_err-check_listed.ensures (search rules)
