-- `barrier_use` goes by the texture's word: one transition over the part where it is Single, otherwise mip by mip.
use Rattle.model.specs.Prelude.{arith}
use Rattle.set_storage.specs.Stored.{ready}
use Rattle.texture_barrier.proofs.Holding.{told_many, told_single, use_single, all_many, part_many}
use Rattle.texture_barrier.proofs.sources.barrier_use.Goals as goal

pub log_move-requires : goal.log_move-requires
log_move-requires g c =
    let a = c.args in
    let single = told_single a.held c.flags_of.ensures c.word-cur.ensures c.if-cur-flags_of.true in
    rw (use_single a.held c.requires.texture_held a.p a.mask c.of-t.ensures a.part a.new single c.word-cur.ensures
    (rw c.full.ensures at c.unwrap_or.ensures)) at c.requires.room_for

pub returns-then-cur-flags_of-clause-taken : goal.returns-then-cur-flags_of-clause-taken
returns-then-cur-flags_of-clause-taken g c =
    let a = c.args in
    let single = told_single a.held c.flags_of.ensures c.word-cur.ensures c.if-cur-flags_of.true in
    rw (use_single a.held c.requires.texture_held a.p a.mask c.of-t.ensures a.part a.new single c.word-cur.ensures
    (rw c.full.ensures at c.unwrap_or.ensures)) c.log_move.ensures

pub log_mips-requires-clause-ready : goal.log_mips-requires-clause-ready
log_mips-requires-clause-ready g c =
    let many = told_many c.args.held c.flags_of.ensures c.word-cur.ensures c.if-cur-flags_of.false in
    ready c.requires.texture_held many _ (omega arith)

pub log_mips-requires-clause-room_for : goal.log_mips-requires-clause-room_for
log_mips-requires-clause-room_for g c =
    let a = c.args in
    let many = told_many a.held c.flags_of.ensures c.word-cur.ensures c.if-cur-flags_of.false in
    rw (c.in-None.is, all_many a.held c.requires.texture_held a.p a.mask c.of-t.ensures many a.new) at c.requires.room_for

pub returns-in-None-clause-taken : goal.returns-in-None-clause-taken
returns-in-None-clause-taken g c =
    let a = c.args in
    let many = told_many a.held c.flags_of.ensures c.word-cur.ensures c.if-cur-flags_of.false in
    rw (c.in-None.is, all_many a.held c.requires.texture_held a.p a.mask c.of-t.ensures many a.new) c.log_mips.ensures

pub log_mips-requires-in-Some-clause-ready : goal.log_mips-requires-in-Some-clause-ready
log_mips-requires-in-Some-clause-ready g c =
    let within = rw c.in-Some.is at c.requires.part_within in
    let many = told_many c.args.held c.flags_of.ensures c.word-cur.ensures c.if-cur-flags_of.false in
    ready c.requires.texture_held many _ within.in_mips

pub log_mips-requires-in-Some-clause-room_for : goal.log_mips-requires-in-Some-clause-room_for
log_mips-requires-in-Some-clause-room_for g c =
    let a = c.args in
    let within = rw c.in-Some.is at c.requires.part_within in
    let many = told_many a.held c.flags_of.ensures c.word-cur.ensures c.if-cur-flags_of.false in
    rw (c.in-Some.is, part_many a.held c.requires.texture_held a.p a.mask c.of-t.ensures many a.new c.in-Some.q within)
    at c.requires.room_for

pub returns-in-Some-clause-taken : goal.returns-in-Some-clause-taken
returns-in-Some-clause-taken g c =
    let a = c.args in
    let within = rw c.in-Some.is at c.requires.part_within in
    let many = told_many a.held c.flags_of.ensures c.word-cur.ensures c.if-cur-flags_of.false in
    rw (c.in-Some.is, part_many a.held c.requires.texture_held a.p a.mask c.of-t.ensures many a.new c.in-Some.q within)
    c.log_mips-in-Some.ensures
