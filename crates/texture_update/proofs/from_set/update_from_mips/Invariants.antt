-- `update_from_mips`: each lap gives one mip, and what is left decides.
use Rattle.model.specs.Prelude.{drop}
use Rattle.model.specs.Texture.{pieces_of}
use Rattle.set_storage.specs.{Storage.{numbers_of, ends_of}, Stored.mips_stored}
use Rattle.texture_merge.specs.Giving.{pieces_from}
use Rattle.texture_update.specs.Pieces.{updates}
use Rattle.texture_update.proofs.Takes.{Taking}
use Rattle.texture_update.proofs.from_set.update_from_mips.Given as goal

abbrev pub invariant-loop-m : goal.invariant-loop-m
invariant-loop-m l = Taking l.given.i l.p (updates l.p.unknown (pieces_of (mips_stored l.given))
    (ends_of (numbers_of l.initial.table) l.initial.table l.initial.starts l.initial.ends l.given.i)) l.initial.table l.initial.starts
    l.initial.ends (updates l.p.unknown (pieces_from l.m (drop l.m (mips_stored l.given)))) l.table l.starts l.ends
