-- `update_use`: the words tell whether the end and the start are Single or Many, and each case is the model's.
use Rattle.model.specs.Prelude.{refl}
use Rattle.texture_merge.specs.Ready.{texture_selects}
use Rattle.texture_update.specs.Update.{end_many, both_many}
use Rattle.texture_update.proofs.Cases.{part_single, part_kept, part_learnt}
use Rattle.texture_update.proofs.using.update_use.Goals as goal

pub returns-then-cur-p : goal.returns-then-cur-p
returns-then-cur-p c = let p = c.requires in part_single p.update_ready p.selecting _ refl c.if-cur-p.true c.break_up.ensures

pub edit_mips-requires : goal.edit_mips-requires
edit_mips-requires c =
    let p = c.requires in record
    { half_tiled = end_many p.update_ready c.if-cur-p.false; selects = texture_selects p.update_ready.end.ready p.selecting.selector }

pub returns-then-first-p : goal.returns-then-first-p
returns-then-first-p c = let p = c.requires in part_kept p.update_ready p.selecting c.if-cur-p.false c.if-first-p.true c.edit_mips.ensures

pub update_both_mips-requires : goal.update_both_mips-requires
update_both_mips-requires c =
    let p = c.requires in record {
      both_ready = both_many p.update_ready c.if-first-p.false c.if-cur-p.false;
      selects =
          texture_selects p.update_ready.end.ready p.selecting.selector;
    }

pub returns-else-first-p : goal.returns-else-first-p
returns-else-first-p c = let p = c.requires in
    part_learnt p.update_ready p.selecting c.if-cur-p.false c.if-first-p.false c.update_both_mips.ensures
