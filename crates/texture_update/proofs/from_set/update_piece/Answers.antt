-- `update_piece`: a piece that is UNKNOWN leaves all as it was, and the start's word tells whether one that is not is learnt.
use Rattle.texture_update.proofs.PieceCases.{end_ready, both_ready, piece_passed, piece_kept, piece_learnt}
use Rattle.texture_update.proofs.from_set.update_piece.Goals as goal

pub returns-then-state-p : goal.returns-then-state-p
returns-then-state-p c = piece_passed c.requires.pair_ready _ c.if-state-p.true

pub edit_mips-requires-clause-half_tiled : goal.edit_mips-requires-clause-half_tiled
edit_mips-requires-clause-half_tiled c = end_ready c.requires.pair_ready

pub returns-then-first-p : goal.returns-then-first-p
returns-then-first-p c =
    piece_kept c.requires.pair_ready _ c.if-state-p.false c.if-first-p.true c.edit_mips.ensures

pub update_both_mips-requires-clause-both_ready : goal.update_both_mips-requires-clause-both_ready
update_both_mips-requires-clause-both_ready c = both_ready c.requires.pair_ready c.if-first-p.false

pub returns-else-first-p : goal.returns-else-first-p
returns-else-first-p c =
    piece_learnt c.requires.pair_ready _ c.if-state-p.false c.if-first-p.false c.update_both_mips.ensures
