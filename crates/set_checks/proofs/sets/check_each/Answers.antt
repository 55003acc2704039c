-- `check_each`: the first check that fails is told.
use Rattle.std.proofs.Common.{rules}
use Rattle.set_checks.proofs.{Firsts.{set_stops}}
use Rattle.set_checks.proofs.sets.check_each.Goals as goal

pub returns-in_err-check_owned : goal.returns-in_err-check_owned
returns-in_err-check_owned c =
    set_stops c.requires.given_value c.loop-i-test.true c.loop-i.invariant c.in_err-check_owned.ensures (search rules)
