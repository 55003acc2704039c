-- `insert_use`: a state for all is the word, and otherwise the mips are made anew UNKNOWN and painted.
use Rattle.model.specs.Prelude.{sym, ap, ◌∙◌}
use Rattle.model.specs.{declared.UsageFlags.UsageFlags, Texture.{insert, paint_all, on_mips}}
use Rattle.texture_merge.specs.Ready.{texture_selects}
use Rattle.set_storage.specs.Slots.{become_single}
use Rattle.texture_merge.proofs.Breaking.{break_every, break_many, break_texture, break_then}
use Rattle.texture_merge.proofs.using.insert_use.Goals as goal

pub returns-in-None : goal.returns-in-None
unfolding insert
returns-in-None c = let u = c.requires in
    rw (c.set_state.ensures, c.in-None.is) (become_single u.texture.measured u.texture.index
    (λ z. u.plain (z ∙ sym (ap (λ (x : UsageFlags). x.complex) u.flags))))

pub fresh_mips-requires : goal.fresh_mips-requires
fresh_mips-requires c =
    rw c.set_state-in-Some.ensures (break_every c.requires.texture c.requires.flags)

pub edit_mips-requires : goal.edit_mips-requires
edit_mips-requires c =
    let u = c.requires in let b = rw c.set_state-in-Some.ensures at c.fresh_mips.ensures in
    record {
      half_tiled = break_many u.texture u.flags _ b;
      selects = texture_selects (break_texture u.texture u.flags _ b)
          (rw c.in-Some.is at u.within);
    }

pub returns-in-Some : goal.returns-in-Some
unfolding insert paint_all
returns-in-Some c = let u = c.requires in
    rw c.in-Some.is (break_then u.texture u.flags _ (rw c.set_state-in-Some.ensures at c.fresh_mips.ensures)
    (on_mips c.in-Some.q _ 0) c.edit_mips.ensures)
