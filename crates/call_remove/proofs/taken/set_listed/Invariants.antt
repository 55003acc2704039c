-- `set_listed`: what is left of the list makes of the sets what all of it makes at entry.
use Rattle.call_remove.specs.Taken.{Taking}
use Rattle.call_remove.proofs.taken.set_listed.Given as goal

abbrev pub invariant-loop-index : goal.invariant-loop-index
invariant-loop-index l = Taking l.initial.table l.initial.starts l.initial.ends l.initial.given l.lent l.indices l.index-index
    l.table l.starts l.ends l.given
