-- `barrier_texture`: where both are Single, the transition of all of the texture.
use Rattle.model.specs.Prelude.{None}
use Rattle.texture_barrier.proofs.Holding.{told_single, given_single_lem, use_single}
use Rattle.texture_barrier.proofs.sources.barrier_texture.Goals as goal

pub log_move-requires : goal.log_move-requires
log_move-requires g c =
    let a = c.args in let p = c.requires in
    let given = told_single a.given c.flags_of.ensures c.word-new.ensures c.if-new-flags_of.true in
    let held = told_single a.held c.flags_of-then-new-flags_of.ensures c.word-cur.ensures c.if-cur-flags_of.true in
    rw (
      given_single_lem a.held p.texture_held a.p a.mask a.given p.given_held given c.word-new.ensures,
      use_single a.held p.texture_held a.p a.mask c.of-t.ensures None _ held c.word-cur.ensures c.full.ensures,
    ) at p.room_for

pub returns-then-cur-flags_of-clause-taken : goal.returns-then-cur-flags_of-clause-taken
returns-then-cur-flags_of-clause-taken g c =
    let a = c.args in let p = c.requires in
    let given = told_single a.given c.flags_of.ensures c.word-new.ensures c.if-new-flags_of.true in
    let held = told_single a.held c.flags_of-then-new-flags_of.ensures c.word-cur.ensures c.if-cur-flags_of.true in
    rw (
      given_single_lem a.held p.texture_held a.p a.mask a.given p.given_held given c.word-new.ensures,
      use_single a.held p.texture_held a.p a.mask c.of-t.ensures None _ held c.word-cur.ensures c.full.ensures,
    ) c.log_move.ensures
