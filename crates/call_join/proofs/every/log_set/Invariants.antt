-- `log_set`: the sink has taken the entries of the indices below `k`, in their order.
use Rattle.model.specs.Prelude.{ℕ}
use Rattle.texture_barrier.specs.{Entries.entries_at, Taking.Taking}
use Rattle.texture_track.specs.GivenSlot.{entries_by}
use Rattle.log_head.specs.UpTo.{up_left}
use Rattle.call_join.specs.Join.{joining_entries}
use Rattle.call_join.proofs.every.log_set.Given as goal

abbrev pub invariant-loop-k : goal.invariant-loop-k
invariant-loop-k g l =
    let j = l.set in
    Taking g.K.Sink.takes l.initial.sink (joining_entries j)
    (up_left (λ (i : ℕ). entries_at i (entries_by j.p j.mask j.table.now j.ends.now j.given i)) j.n) j.n l.k l.sink
