-- `fresh_mips`: each lap makes the next mip anew, and after the last lap all are.
use Rattle.model.specs.Prelude.{refl}
use Rattle.model.specs.Base.{fine}
use Rattle.texture_merge.proofs.Laps.{lap_ready, lap_on, fresh_end}
use Rattle.texture_merge.proofs.every.fresh_mips.Goals as goal

pub fresh_mip-requires : goal.fresh_mip-requires
fresh_mip-requires c = let p = c.requires in
    lap_ready p.measured p.texture c.loop-m.invariant (rw (c.wide-m-end.ensures.0, p.all) at c.loop-m-test.true)

pub loop-m-preserved : goal.loop-m-preserved
loop-m-preserved c = let p = c.requires in
    lap_on p.measured p.texture c.loop-m.invariant (rw (c.wide-m-end.ensures.0, p.all) at c.loop-m-test.true) (λ s. fine _) (λ x. refl)
    (record { conflict = refl; into = c.fresh_mip.ensures }) refl

pub returns : goal.returns
returns c = let p = c.requires in fresh_end p.measured p.texture c.loop-m.invariant p.all
    (rw c.wide-m-end.ensures.0 at c.loop-m-test.false)
