-- `update_any`: the words tell whether the given texture and the end are Single or Many, and each case is the model's.
use Rattle.model.specs.Prelude.{refl}
use Rattle.texture_update.proofs.SetCases.{state_given, pieces_ready, pieces_done, cover_ready, cover_done}
use Rattle.texture_merge.proofs.Breaking.{break_every}
use Rattle.texture_update.proofs.from_set.update_any.Goals as goal

pub returns-then-word-p : goal.returns-then-word-p
returns-then-word-p c =
    let w = c.word-word.ensures in state_given c.requires (rw w at c.if-word-p.true) (rw w at c.update_state.ensures)

pub update_from_mips-requires : goal.update_from_mips-requires
update_from_mips-requires c =
    let w = pieces_ready c.requires (rw c.word-word.ensures at c.if-word-p.false) c.if-cur-p.true in
    record { pair_ready = w.0; given_texture = w.1 }

pub returns-then-cur-p : goal.returns-then-cur-p
returns-then-cur-p c =
    pieces_done c.requires (rw c.word-word.ensures at c.if-word-p.false) c.if-cur-p.true c.update_from_mips.ensures

pub fresh_mips-requires : goal.fresh_mips-requires
fresh_mips-requires c = rw c.set_state.ensures (break_every c.requires.end.ready c.requires.flags)

pub give_mips-requires : goal.give_mips-requires
give_mips-requires c =
    let w = cover_ready c.requires (rw c.word-word.ensures at c.if-word-p.false) refl c.if-cur-p.false
    (rw c.set_state.ensures at c.fresh_mips.ensures) in record { half_tiled = w.0; given_texture = w.1 }

pub returns : goal.returns
returns c =
    cover_done c.requires (rw c.word-word.ensures at c.if-word-p.false) refl c.if-cur-p.false
    (rw c.set_state.ensures at c.fresh_mips.ensures) c.give_mips.ensures
