-- `break_up`: the mips are made anew in the old state, and those of the selector take the new one.
use Rattle.model.specs.Texture.{on_mips}
use Rattle.texture_merge.specs.{Ready.texture_selects, Uses.broken_up}
use Rattle.texture_merge.proofs.Breaking.{break_every, break_many, break_texture, break_then}
use Rattle.texture_merge.proofs.using.break_up.Goals as goal

pub fresh_mips-requires : goal.fresh_mips-requires
fresh_mips-requires c =
    rw c.set_state.ensures (break_every c.requires.texture c.requires.flags)

pub edit_mips-requires : goal.edit_mips-requires
edit_mips-requires c =
    let u = c.requires in let b = rw c.set_state.ensures at c.fresh_mips.ensures in
    record { half_tiled = break_many u.texture u.flags _ b; selects = texture_selects (break_texture u.texture u.flags _ b) u.within }

pub returns : goal.returns
unfolding broken_up
returns c = let u = c.requires in break_then u.texture u.flags _ (rw c.set_state.ensures at c.fresh_mips.ensures)
    (on_mips c.args.q _ 0) c.edit_mips.ensures
