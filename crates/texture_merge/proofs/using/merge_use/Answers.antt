-- `merge_use`: the word tells whether the texture is Single or Many, and each case is the model's.
use Rattle.model.specs.Prelude.{refl}
use Rattle.texture_merge.specs.Ready.{texture_every, texture_selects}
use Rattle.texture_merge.proofs.UseCases.{single_merged, many_ready, every_merged, part_merged}
use Rattle.texture_merge.proofs.using.merge_use.Goals as goal

pub returns-then-cur-p : goal.returns-then-cur-p
returns-then-cur-p c = let p = c.requires in single_merged p.use_ready p.held_ready _ refl c.if-cur-p.true c.merge_single_use.ensures

pub merge_every_mips-requires : goal.merge_every_mips-requires
merge_every_mips-requires c =
    let p = c.requires in record {
      half_tiled = many_ready p.use_ready p.held_ready (c.if-cur-p.false);
      every_ready =
          texture_every p.use_ready.texture;
    }

pub returns-in-None : goal.returns-in-None
returns-in-None c = let p = c.requires in every_merged p.use_ready p.held_ready (c.if-cur-p.false) c.in-None.is c.merge_every_mips.ensures

pub merge_mips-requires : goal.merge_mips-requires
merge_mips-requires c =
    let p = c.requires in record {
      half_tiled = many_ready p.use_ready p.held_ready (c.if-cur-p.false);
      selects = texture_selects p.use_ready.texture (rw c.in-Some.is at p.use_ready.within);
    }

pub returns-in-Some : goal.returns-in-Some
returns-in-Some c = let p = c.requires in part_merged p.use_ready p.held_ready (c.if-cur-p.false) c.in-Some.is c.merge_mips.ensures
