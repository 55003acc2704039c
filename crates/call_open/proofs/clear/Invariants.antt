-- `clear`: each lap writes the five words of one index.
use Rattle.std.specs.Prelude.{◌≡◌}
use Rattle.call_open.specs.Open.{cleared}
use Rattle.call_open.proofs.clear.Given as goal

abbrev pub invariant-loop-i : goal.invariant-loop-i
invariant-loop-i l = l.table ≡ cleared l.initial.table l.state l.i
