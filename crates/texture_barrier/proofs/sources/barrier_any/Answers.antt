-- `barrier_any` goes by the given texture's word and then by its own.
use Rattle.model.specs.Prelude.{arith}
use Rattle.set_storage.specs.Stored.{ready, ready_at}
use Rattle.texture_barrier.proofs.Holding.{told_many, told_single, given_single_lem, given_many_lem, given_from}
use Rattle.texture_barrier.proofs.sources.barrier_any.Goals as goal

pub barrier_use-requires-clause-room_for : goal.barrier_use-requires-clause-room_for
barrier_use-requires-clause-room_for g c =
    let a = c.args in
    let p = c.requires in
    let single = told_single a.given c.flags_of.ensures c.word-new.ensures c.if-new-flags_of.true in
    rw (given_single_lem a.held p.texture_held a.p a.mask a.given p.given_held single c.word-new.ensures) at p.room_for

pub returns-then-new-flags_of : goal.returns-then-new-flags_of
returns-then-new-flags_of g c =
    let a = c.args in
    let p = c.requires in
    let single = told_single a.given c.flags_of.ensures c.word-new.ensures c.if-new-flags_of.true in
    rw (given_single_lem a.held p.texture_held a.p a.mask a.given p.given_held single c.word-new.ensures) c.barrier_use.ensures.taken

pub log_mips-requires-clause-ready : goal.log_mips-requires-clause-ready
log_mips-requires-clause-ready g c =
    let given = told_many c.args.given c.flags_of.ensures c.word-new.ensures c.if-new-flags_of.false in
    ready c.requires.given_held given _ (omega arith)

pub log_mips-requires-clause-usable : goal.log_mips-requires-clause-usable
log_mips-requires-clause-usable g c =
    let held = told_many c.args.held c.flags_of-2.ensures c.word-cur.ensures c.if-cur-flags_of.true in
    λ m l. ready_at (ready c.requires.texture_held held _ (omega arith)) l

pub log_mips-requires-clause-room_for : goal.log_mips-requires-clause-room_for
log_mips-requires-clause-room_for g c =
    let a = c.args in
    let p = c.requires in
    let given = told_many a.given c.flags_of.ensures c.word-new.ensures c.if-new-flags_of.false in
    let held = told_many a.held c.flags_of-2.ensures c.word-cur.ensures c.if-cur-flags_of.true in
    rw (given_many_lem a.held p.texture_held a.p a.mask a.given p.given_held c.of-t.ensures given held) at p.room_for

pub returns-then-cur-flags_of : goal.returns-then-cur-flags_of
returns-then-cur-flags_of g c =
    let a = c.args in
    let p = c.requires in
    let given = told_many a.given c.flags_of.ensures c.word-new.ensures c.if-new-flags_of.false in
    let held = told_many a.held c.flags_of-2.ensures c.word-cur.ensures c.if-cur-flags_of.true in
    rw (given_many_lem a.held p.texture_held a.p a.mask a.given p.given_held c.of-t.ensures given held) c.log_mips.ensures

pub log_mips-requires-2-clause-ready : goal.log_mips-requires-2-clause-ready
log_mips-requires-2-clause-ready g c =
    let given = told_many c.args.given c.flags_of.ensures c.word-new.ensures c.if-new-flags_of.false in
    ready c.requires.given_held given _ (omega arith)

pub log_mips-requires-2-clause-room_for : goal.log_mips-requires-2-clause-room_for
log_mips-requires-2-clause-room_for g c =
    let a = c.args in
    let p = c.requires in
    let given = told_many a.given c.flags_of.ensures c.word-new.ensures c.if-new-flags_of.false in
    let single = told_single a.held c.flags_of-2.ensures c.word-cur.ensures c.if-cur-flags_of.false in
    rw (given_from a.held p.texture_held a.p a.mask a.given p.given_held c.of-t.ensures given single c.word-cur.ensures)
    at p.room_for

pub returns : goal.returns
returns g c =
    let a = c.args in
    let p = c.requires in
    let given = told_many a.given c.flags_of.ensures c.word-new.ensures c.if-new-flags_of.false in
    let single = told_single a.held c.flags_of-2.ensures c.word-cur.ensures c.if-cur-flags_of.false in
    rw (given_from a.held p.texture_held a.p a.mask a.given p.given_held c.of-t.ensures given single c.word-cur.ensures)
    c.log_mips-2.ensures
