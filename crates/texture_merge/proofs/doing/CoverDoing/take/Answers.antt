-- A Single end that is covered by a piece takes what is left of its state.
use Rattle.model.specs.Prelude.{refl}
use Rattle.texture_merge.specs.Giving.{covered}
use Rattle.texture_merge.proofs.doing.CoverDoing.take.Goals as goal

pub returns : goal.returns
unfolding covered
returns c = rw (← c.end_after-state.ensures) record { conflict = refl; into = c.edit_mips.ensures }
