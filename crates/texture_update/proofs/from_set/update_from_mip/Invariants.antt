-- `update_from_mip`: each lap gives one range, and what is left decides.
use Rattle.model.specs.Prelude.{map, drop}
use Rattle.range_states.specs.View.{decode}
use Rattle.set_storage.specs.Storage.{numbers_of, ends_of}
use Rattle.texture_merge.specs.Giving.{piece_on}
use Rattle.texture_update.specs.Pieces.{updates}
use Rattle.texture_update.proofs.Takes.{Taking}
use Rattle.texture_update.proofs.from_set.update_from_mip.Given as goal

abbrev pub invariant-loop-k : goal.invariant-loop-k
invariant-loop-k l = Taking l.i l.p (updates l.p.unknown (map (piece_on l.m) (decode l.run.len l.run.records.now))
    (ends_of (numbers_of l.initial.table) l.initial.table l.initial.starts l.initial.ends l.i)) l.initial.table l.initial.starts
    l.initial.ends (updates l.p.unknown (map (piece_on l.m) (drop l.k (decode l.run.len l.run.records.now)))) l.table l.starts l.ends
