-- `log_set`: the sink has taken the entries of the indices below `k`, in their order.
use Rattle.model.specs.Prelude.{arith}
use Rattle.texture_barrier.specs.Taking.{taking_start, taking_room, taking_turn, taking_end}
use Rattle.log_head.specs.UpTo.{up_all, up_next, up_done}
use Rattle.call_join.proofs.every.log_set.Goals as goal

pub loop-k-init : goal.loop-k-init
loop-k-init g c = taking_start g.met.K.Sink.laws _ _ _ _ (omega arith) (up_all _ _)

pub log_at-requires : goal.log_at-requires
log_at-requires g c =
    let p = c.requires in let b = c.loop-k-test.true in
    record { logs_by = p.ready.each _ b; room = taking_room g.met.K.Sink.laws c.loop-k.invariant p.room (up_next _ _ b) }

pub loop-k-preserved : goal.loop-k-preserved
loop-k-preserved g c =
    let b = c.loop-k-test.true in
    taking_turn g.met.K.Sink.laws c.loop-k.invariant c.requires.room (up_next _ _ b) b c.log_at.ensures.taken

pub returns-clause-taken : goal.returns-clause-taken
returns-clause-taken g c = taking_end g.met.K.Sink.laws c.loop-k.invariant c.loop-k-test.false (up_done _ _)
