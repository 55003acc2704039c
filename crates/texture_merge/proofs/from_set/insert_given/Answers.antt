-- `insert_given`: a Single texture's word is written, and a Many one's ranges are painted on mips made anew.
use Rattle.texture_merge.proofs.{Breaking.break_every, SetCases.{insert_single, insert_ready, insert_many}}
use Rattle.texture_merge.proofs.from_set.insert_given.Goals as goal

pub fresh_mips-requires : goal.fresh_mips-requires
fresh_mips-requires c =
    rw (c.set_state.ensures, c.if-word-p.true) (break_every c.requires.texture c.requires.flags)

pub give_mips-requires : goal.give_mips-requires
give_mips-requires c =
    let w = insert_ready c.requires (rw c.word-word.ensures at c.if-word-p.true)
    (rw (c.set_state.ensures, c.if-word-p.true) at c.fresh_mips.ensures) in
    record { half_tiled = w.0; given_texture = w.1 }

pub returns-then-word-p : goal.returns-then-word-p
returns-then-word-p c =
    insert_many c.requires (rw c.word-word.ensures at c.if-word-p.true) (rw (c.set_state.ensures, c.if-word-p.true) at c.fresh_mips.ensures)
    c.give_mips.ensures

pub returns-else-word-p : goal.returns-else-word-p
returns-else-word-p c = rw (c.set_state.ensures, c.word-word.ensures)
    (insert_single c.requires (rw c.word-word.ensures at c.if-word-p.false))
