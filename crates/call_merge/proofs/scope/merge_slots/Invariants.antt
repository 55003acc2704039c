-- `merge_slots`: each lap merges one texture, and those to come read as at entry.
use Rattle.call_merge.proofs.{Slots.{Merging}}
use Rattle.call_merge.proofs.scope.merge_slots.Given as goal

abbrev pub invariant-loop-k : goal.invariant-loop-k
invariant-loop-k l = Merging l.p l.initial.table l.initial.ranges l.given l.lent l.k l.table l.ranges
