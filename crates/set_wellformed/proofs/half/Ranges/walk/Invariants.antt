-- `walk` goes through both lists at once; the first two states that differ decide.
use Rattle.std.specs.Prelude.{◌+◌, ◌-◌, ◌≤◌}
use Rattle.range_states.specs.View.{decode}
use Rattle.set_wellformed.proofs.Agreeing.{Walk}
use Rattle.set_wellformed.proofs.half.Ranges.walk.Given as goal

abbrev pub invariant-loop-i : goal.invariant-loop-i
invariant-loop-i l = (l.i ≤ l.self.len) × ((l.j ≤ l.other.len)
    × Walk l.u (decode l.self.len l.self.numbers.now) (decode l.other.len l.other.numbers.now) l.i l.j)

abbrev pub decreases-loop-i : goal.decreases-loop-i
decreases-loop-i l = l.self.len - l.i + (l.other.len - l.j)
