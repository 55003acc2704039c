-- `set_slots`: the slots below `k` are the model's, the others as they were.
use Rattle.model.specs.Prelude.{arith}
use Rattle.call_join.proofs.Setting.{setting_start, setting_ready, setting_next, setting_end}
use Rattle.call_join.proofs.every.set_slots.Goals as goal

pub loop-k-init : goal.loop-k-init
loop-k-init c = (omega arith, setting_start _ _ _ _)

pub set_at-requires : goal.set_at-requires
set_at-requires c =
    let p = c.requires in
    setting_ready p.joins c.loop-k.invariant.1 (rw p.n_value.0 at c.loop-k-test.true) p.n_value.1

pub loop-k-preserved : goal.loop-k-preserved
loop-k-preserved c =
    let p = c.requires in let h = c.loop-k-test.true in
    (omega (arith, h), setting_next p.joins c.loop-k.invariant.1 (rw p.n_value.0 at h) c.set_at.ensures)

pub returns : goal.returns
returns c =
    let p = c.requires in let v = c.loop-k.invariant in
    setting_end _ _ p.n_value.1 (omega (arith, v.0, c.loop-k-test.false, p.n_value.0)) v.1
