-- `set_listed`: what is left of the list makes of the sets what all of it makes at entry.
use Rattle.call_remove.specs.Taken.{taking_start, taking_ready, taking_turn}
use Rattle.call_remove.proofs.taken.set_listed.Goals as goal

pub loop-index-init : goal.loop-index-init
loop-index-init c = taking_start _ _ _ _ _ _

pub take_at-requires : goal.take_at-requires
take_at-requires c =
    let p = c.requires in
    rw c.wide.ensures.0 (taking_ready p.listing c.loop-index.invariant c.loop-index-test.true p.p_value)

pub loop-index-preserved : goal.loop-index-preserved
loop-index-preserved c =
    let p = c.requires in
    let z = (rw c.wide.ensures.0 at c.take_at.ensures) in
    taking_turn p.listing c.loop-index.invariant c.loop-index-test.true p.p_value z
