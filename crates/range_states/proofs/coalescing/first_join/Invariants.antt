-- `first_join` reads on while no record joins the one before it.
use Rattle.range_states.proofs.Joining.{Reading}
use Rattle.range_states.proofs.coalescing.first_join.Given as goal

abbrev pub invariant-loop-i : goal.invariant-loop-i
invariant-loop-i l = Reading l.s l.len l.i l.cur
