-- `log`: the sink has taken the entries of the positions before the index's; each index is marked as listed.
use Rattle.model.specs.Prelude.{ℕ, length, get_or}
use Rattle.texture_barrier.specs.{Entries.entries_at, Taking.Taking}
use Rattle.log_head.specs.UpTo.{up_left}
use Rattle.call_remove.specs.Logs.{listed_entries, listing_entries}
use Rattle.call_remove.proofs.Seen.{Seen}
use Rattle.call_remove.proofs.logged.ListedTransitions.log.Given as goal

abbrev pub invariant-loop-index : goal.invariant-loop-index
invariant-loop-index g l =
    let x = l.self in let is = x.indices.now in
    Taking g.K.Sink.takes l.initial.sink (listing_entries x)
    (up_left (λ (j : ℕ). entries_at (get_or is j 0) (listed_entries x.p x.mask x.table.now x.ends.now x.given.now x.lent.now is j))
    (length is))
    (length is) l.index-index l.sink
    × Seen l.seen is l.index-index
