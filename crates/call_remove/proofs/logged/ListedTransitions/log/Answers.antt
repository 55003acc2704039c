-- `log`: the sink has taken the entries of the positions before the index's; each index is marked as listed.
use Rattle.model.specs.Prelude.{arith, subst}
use Rattle.texture_barrier.specs.Taking.{taking_start, taking_room, taking_turn, taking_end}
use Rattle.log_head.specs.UpTo.{up_all, up_next, up_done}
use Rattle.call_remove.proofs.Seen.{seen_none, seen_next, once_again, once_first}
use Rattle.call_remove.proofs.logged.ListedTransitions.log.Goals as goal

pub loop-index-init : goal.loop-index-init
loop-index-init g c = (taking_start g.met.K.Sink.laws _ _ _ _ (omega arith) (up_all _ _), seen_none _)

pub loop-index-preserved-then-again : goal.loop-index-preserved-then-again
loop-index-preserved-then-again g c =
    let a = c.args.self.now in let laws = g.met.K.Sink.laws in let v = c.loop-index.invariant in let b = c.loop-index-test.true in
    let e = c.wide-i.ensures.0 in let low = (c.requires.ready.each _ b).index in
    let none = once_again v.1 e low a.p a.mask a.table.now a.ends.now a.given.now a.lent.now c.if-again.true in
    (taking_turn laws v.0 c.requires.room (up_next _ _ b) b (rw none (laws.none c.loop-index.sink)), seen_next v.1 b e low)

pub log_at-requires-clause-room : goal.log_at-requires-clause-room
log_at-requires-clause-room g c =
    let a = c.args.self.now in let v = c.loop-index.invariant in let b = c.loop-index-test.true in
    let e = c.wide-i.ensures.0 in let low = (c.requires.ready.each _ b).index in
    let its = once_first v.1 e low a.p a.mask a.table.now a.ends.now a.given.now a.lent.now c.if-again.false in
    subst (g.K.Sink.room c.loop-index.sink) its (taking_room g.met.K.Sink.laws v.0 c.requires.room (up_next _ _ b))

pub loop-index-preserved : goal.loop-index-preserved
loop-index-preserved g c =
    let a = c.args.self.now in let v = c.loop-index.invariant in let b = c.loop-index-test.true in
    let e = c.wide-i.ensures.0 in let low = (c.requires.ready.each _ b).index in
    let its = once_first v.1 e low a.p a.mask a.table.now a.ends.now a.given.now a.lent.now c.if-again.false in
    (taking_turn g.met.K.Sink.laws v.0 c.requires.room (up_next _ _ b) b (rw its c.log_at.ensures.taken), seen_next v.1 b e low)

pub returns : goal.returns
returns g c = taking_end g.met.K.Sink.laws c.loop-index.invariant.0 c.loop-index-test.false (up_done _ _)
