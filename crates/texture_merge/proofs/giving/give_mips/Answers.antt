-- `give_mips`: each lap gives one mip, and what is left decides.
use Rattle.model.specs.Prelude.{Err}
use Rattle.std.proofs.Common.{rules}
use Rattle.std.specs.Prelude.{◌≡◌}
use Rattle.texture_merge.proofs.{Given.mip_ready, Pieces.{lap_many, mip_start_lem, mip_given, mip_turn, mip_stop, mip_done}}
use Rattle.texture_merge.proofs.giving.give_mips.Goals as goal

pub loop-m-init : goal.loop-m-init
loop-m-init g c = let p = c.requires in mip_start_lem p.half_tiled p.given_texture _ (g.met.D.Doing.keeps_tiled _ _)

pub mip-requires : goal.mip-requires
mip-requires g c = mip_ready c.requires.given_texture _ c.loop-m-test.true

pub give_mip-requires : goal.give_mip-requires
give_mip-requires g c =
    let p = c.requires in let w = c.loop-m.invariant in
    record {
      half_tiled = lap_many p.half_tiled w;
      given_mip = mip_given p.half_tiled p.given_texture _ (g.met.D.Doing.keeps_tiled _ _) w c.loop-m-test.true c.mip.ensures;
    }

pub returns-in_err-give_mip : goal.returns-in_err-give_mip
returns-in_err-give_mip g c =
    let p = c.requires in let e : c.from_residual.result ≡ Err c.in_err-give_mip.field-0.0 = search rules in
    rw e (mip_stop p.half_tiled p.given_texture _ (g.met.D.Doing.keeps_tiled _ _) c.loop-m.invariant c.loop-m-test.true
    c.mip.ensures c.give_mip.ensures _ (rw c.in_err-give_mip.was))

pub loop-m-preserved : goal.loop-m-preserved
loop-m-preserved g c = let p = c.requires in
    mip_turn p.half_tiled p.given_texture _ (g.met.D.Doing.keeps_tiled _ _) c.loop-m.invariant c.loop-m-test.true c.mip.ensures
    c.give_mip.ensures (rw c.in_ok-give_mip.was)

pub returns : goal.returns
returns g c = let p = c.requires in
    mip_done p.half_tiled p.given_texture _ (g.met.D.Doing.keeps_tiled _ _) c.loop-m.invariant c.loop-m-test.false
