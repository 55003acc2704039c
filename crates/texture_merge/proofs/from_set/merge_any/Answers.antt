-- `merge_any`: each case is the model's; the word of a Single texture is written last, so that a conflict leaves it.
use Rattle.std.specs.Prelude.{◌≡◌}
use Rattle.std.proofs.Common.{rules}
use Rattle.model.specs.Prelude.{refl, Err}
use Rattle.texture_merge.specs.{Ready.texture_every}
use Rattle.texture_merge.proofs.SetCases.{merge_single_lem, many_ready, many_many, spread_ready, spread_stop, spread_done}
use Rattle.texture_merge.proofs.from_set.merge_any.Goals as goal

pub returns-then-word-p : goal.returns-then-word-p
returns-then-word-p c =
    merge_single_lem c.requires.set_ready (rw c.word-word.ensures at c.if-word-p.true) (rw c.word-word.ensures at c.merge_use.ensures)

pub give_mips-requires : goal.give_mips-requires
give_mips-requires c =
    let k = rw c.word-word.ensures at c.if-word-p.false in
    let w = many_ready c.requires.set_ready k c.requires.merge_ready c.if-cur-p.true in
    record { half_tiled = w.0; given_texture = w.1 }

pub returns-then-cur-p : goal.returns-then-cur-p
returns-then-cur-p c =
    let k = rw c.word-word.ensures at c.if-word-p.false in
    many_many c.requires.set_ready k c.requires.merge_ready c.if-cur-p.true c.give_mips.ensures

pub fresh_mips-requires : goal.fresh_mips-requires
fresh_mips-requires c = texture_every c.requires.set_ready.texture

pub give_mips-requires-2 : goal.give_mips-requires-2
give_mips-requires-2 c =
    let k = rw c.word-word.ensures at c.if-word-p.false in
    let w = spread_ready c.requires.set_ready k c.requires.merge_ready refl c.if-cur-p.false c.fresh_mips.ensures in
    record { half_tiled = w.0; given_texture = w.1 }

pub returns-in_err-give_mips : goal.returns-in_err-give_mips
returns-in_err-give_mips c =
    let k = rw c.word-word.ensures at c.if-word-p.false in
    let e : c.from_residual.result ≡ Err c.in_err-give_mips.field-0.0 = search rules in
    rw e (spread_stop c.requires.set_ready k c.requires.merge_ready refl c.if-cur-p.false c.fresh_mips.ensures c.give_mips-2.ensures _
    c.in_err-give_mips.was)

pub returns : goal.returns
returns c =
    let k = rw c.word-word.ensures at c.if-word-p.false in
    rw c.set_state.ensures (spread_done c.requires.set_ready k c.requires.merge_ready refl c.if-cur-p.false c.fresh_mips.ensures
    c.give_mips-2.ensures c.in_ok-give_mips.was)
