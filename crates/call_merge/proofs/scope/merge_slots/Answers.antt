-- `merge_slots`: each lap merges one texture, and those to come read as at entry.
use Rattle.call_merge.proofs.Slots.{lap_ready, turn, stop, finish}
use Rattle.call_merge.proofs.scope.merge_slots.Goals as goal

pub merge_owned_at-requires : goal.merge_owned_at-requires
merge_owned_at-requires c =
    rw c.wide.ensures.0 (let w = (lap_ready c.loop-k.invariant c.requires c.loop-k-test.true) in
    record { owned_ready = w.0; p_value = w.1 })

pub returns-in-Err : goal.returns-in-Err
returns-in-Err c =
    stop c.loop-k.invariant c.requires c.loop-k-test.true
    (rw c.wide.ensures.0 at c.merge_owned_at.ensures) c.in-Err.is

pub loop-k-preserved : goal.loop-k-preserved
loop-k-preserved c =
    turn c.loop-k.invariant c.requires c.loop-k-test.true
    (rw c.wide.ensures.0 at c.merge_owned_at.ensures) c.in_default.is

pub returns : goal.returns
returns c = finish c.loop-k.invariant c.loop-k-test.false
