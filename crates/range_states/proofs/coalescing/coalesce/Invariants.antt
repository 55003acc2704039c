-- `coalesce` reads up to the first record that joins, and from there on is the pass of `Joining`.
use Rattle.range_states.proofs.Joining.{Joining}
use Rattle.range_states.proofs.coalescing.coalesce.Given as goal

abbrev pub invariant-loop-i : goal.invariant-loop-i
invariant-loop-i l = Joining l.initial.s l.len l.s l.w l.i l.cur
