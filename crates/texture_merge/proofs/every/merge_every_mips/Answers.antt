-- `merge_every_mips`: each lap is a step of the model's walk over the mips, up to the first conflict.
use Rattle.model.specs.Prelude.{refl, sym, Err}
use Rattle.std.proofs.Common.{rules}
use Rattle.std.specs.Prelude.{◌≡◌}
use Rattle.texture_merge.proofs.Laps.{lap_tiled, lap_small, lap_on, lap_stop, lap_end}
use Rattle.texture_merge.proofs.every.merge_every_mips.Goals as goal

pub merge_every_mip-met-requires : goal.merge_every_mip-met-requires
merge_every_mip-met-requires c = let p = c.requires in
    lap_tiled p.half_tiled c.loop-m.invariant (rw (c.wide-m-end.ensures.0, p.every_ready.all) at c.loop-m-test.true)

pub conflict_on-requires : goal.conflict_on-requires
conflict_on-requires c = let p = c.requires in
    lap_small p.half_tiled (rw (c.wide-m-end.ensures.0, p.every_ready.all) at c.loop-m-test.true)

pub returns-in_err-conflict_on : goal.returns-in_err-conflict_on
returns-in_err-conflict_on c =
    let p = c.requires in let b = rw (c.wide-m-end.ensures.0, p.every_ready.all) at c.loop-m-test.true in
    let e : c.from_residual.result ≡ Err c.in_err-conflict_on.field-0.0 = search rules in
    rw e (lap_stop p.half_tiled.measured p.half_tiled.texture c.loop-m.invariant b _ (λ x. refl)
    c.merge_every_mip-met.ensures _ (rw c.in_err-conflict_on.was at (sym c.conflict_on.ensures)))

pub loop-m-preserved : goal.loop-m-preserved
loop-m-preserved c =
    let p = c.requires in let b = rw (c.wide-m-end.ensures.0, p.every_ready.all) at c.loop-m-test.true in
    lap_on p.half_tiled.measured p.half_tiled.texture c.loop-m.invariant b _ (λ x. refl)
    c.merge_every_mip-met.ensures (rw c.in_ok-conflict_on.was at (sym c.conflict_on.ensures))

pub returns : goal.returns
returns c = let p = c.requires in lap_end p.half_tiled.measured p.half_tiled.texture c.loop-m.invariant
    (rw (c.wide-m-end.ensures.0, p.every_ready.all) at c.loop-m-test.false)
