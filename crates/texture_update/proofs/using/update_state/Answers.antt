-- `update_state`: the words tell whether the end and the start are Single or Many, and each case is the model's.
use Rattle.model.specs.Prelude.{sym, ◌∙◌}
use Rattle.set_storage.specs.Texture.{texture_mips}
use Rattle.texture_update.specs.Update.{both_many}
use Rattle.texture_update.proofs.Cases.{all_single, all_kept, all_learnt}
use Rattle.texture_update.proofs.using.update_state.Goals as goal
use Rattle.texture_update.proofs.using.update_state.Goals.{then-cur-p+then-first-p, else-cur-p, else-cur-p-via-else-cur-p}
use Rattle.texture_update.proofs.using.update_state.Goals.{else-cur-p-via-then-cur-p+else-first-p}

pub learn_mips-requires : goal.learn_mips-requires
learn_mips-requires c =
    let p = c.requires in record
    { both_ready = both_many p c.if-first-p.true c.if-cur-p.true; mips_value = c.wide.ensures.0 ∙ sym (texture_mips p.start.ready) }

pub returns : goal.returns
returns c = rw c.set_state.ensures (elim c.if-cur-p.branch [
  | then-cur-p+then-first-p w ↦ rw (w.table-is, w.starts-is) (all_learnt c.requires w.if-cur-p.true w.if-first-p.true w.learn_mips.ensures)
  | else-cur-p w ↦ rw (w.table-is, w.starts-is) (elim w.else-cur-p.branch [
    | else-cur-p-via-then-cur-p+else-first-p v ↦ all_kept c.requires v.if-cur-p.true v.if-first-p.false
    | else-cur-p-via-else-cur-p v ↦ all_single c.requires v.if-cur-p.false
  ])
])
