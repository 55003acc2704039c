-- An insert of a piece paints it.
use Rattle.model.specs.Prelude.{refl}
use Rattle.texture_merge.specs.Giving.{inserted}
use Rattle.texture_merge.proofs.doing.InsertDoing.take.Goals as goal

pub returns : goal.returns
unfolding inserted
returns c = record { conflict = refl; into = c.edit_mips.ensures }
