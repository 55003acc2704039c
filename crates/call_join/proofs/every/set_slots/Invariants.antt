-- `set_slots`: the slots below `k` are the model's, the others as they were.
use Rattle.std.specs.Prelude.{◌≤◌}
use Rattle.set_storage.specs.Stays.{OwnedBy}
use Rattle.set_ready.specs.Named.{Within}
use Rattle.call_join.proofs.Setting.{Setting}
use Rattle.texture_track.specs.GivenSlot.{set_by}
use Rattle.call_join.proofs.every.set_slots.Given as goal

abbrev pub invariant-loop-k : goal.invariant-loop-k
invariant-loop-k l =
    let g = l.given in
    (l.k ≤ l.n)
    × Setting (Within l.initial.table (OwnedBy g.table.now)) l.initial.table l.initial.starts l.initial.ends (set_by l.p g) l.k l.table
    l.starts l.ends
