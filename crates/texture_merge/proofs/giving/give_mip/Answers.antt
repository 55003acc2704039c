-- `give_mip`: each lap gives one range, and what is left decides.
use Rattle.model.specs.Prelude.{arith, Err}
use Rattle.std.proofs.Common.{rules}
use Rattle.std.specs.Prelude.{◌≡◌}
use Rattle.texture_merge.proofs.{Laps.lap_small, Pieces.{lap_many, range_start, range_selects, range_turn, range_stop}}
use Rattle.texture_merge.proofs.giving.give_mip.Goals as goal

pub loop-k-init : goal.loop-k-init
loop-k-init g c = let p = c.requires in range_start p.half_tiled p.given_mip _ (g.met.D.Doing.keeps_tiled _ _)

pub on_mip-q-requires : goal.on_mip-q-requires
on_mip-q-requires g c = let p = c.requires in omega (arith, lap_small p.half_tiled p.given_mip.mip)

pub take-requires : goal.take-requires
take-requires g c =
    let p = c.requires in let w = c.loop-k.invariant in
    rw c.on_mip-q.ensures
    (record {
      half_tiled = lap_many p.half_tiled w;
      selects =
          range_selects p.half_tiled p.given_mip _ (g.met.D.Doing.keeps_tiled _ _) w c.loop-k-test.true c.get-r.ensures;
    })

pub returns-in_err-take : goal.returns-in_err-take
returns-in_err-take g c =
    let p = c.requires in let e : c.from_residual.result ≡ Err c.in_err-take.field-0.0 = search rules in
    rw e (range_stop p.half_tiled p.given_mip _ (g.met.D.Doing.keeps_tiled _ _) c.loop-k.invariant c.loop-k-test.true c.get-r.ensures
    (rw c.on_mip-q.ensures at c.take.ensures) _ (rw c.in_err-take.was))

pub loop-k-preserved : goal.loop-k-preserved
loop-k-preserved g c = let p = c.requires in
    range_turn p.half_tiled p.given_mip _ (g.met.D.Doing.keeps_tiled _ _) c.loop-k.invariant c.loop-k-test.true c.get-r.ensures
    (rw c.on_mip-q.ensures at c.take.ensures) (rw c.in_ok-take.was)
