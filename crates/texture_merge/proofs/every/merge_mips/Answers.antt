-- `merge_mips`: each lap is a step of the model's walk over the mips of the selector, up to the first conflict.
use Rattle.model.specs.Prelude.{sym, Err}
use Rattle.std.proofs.Common.{rules}
use Rattle.std.specs.Prelude.{◌≡◌}
use Rattle.model.specs.Texture.{merge_mip}
use Rattle.texture_mips.specs.Merge.{merge_run}
use Rattle.texture_merge.proofs.Laps.{selector_start, selector_piece, selector_small, selector_turn, selector_stop, selector_end}
use Rattle.texture_merge.proofs.every.merge_mips.Goals as goal

pub loop-m-init : goal.loop-m-init
loop-m-init c = let p = c.requires in rw c.wide-m.ensures.0 (selector_start p.half_tiled p.selects _)

pub merge_mip-met-requires : goal.merge_mip-met-requires
merge_mip-met-requires c = let p = c.requires in
    selector_piece p.half_tiled p.selects c.loop-m.invariant (rw c.wide-m-end.ensures.0 at c.loop-m-test.true)

pub conflict_on-requires : goal.conflict_on-requires
conflict_on-requires c = let p = c.requires in
    selector_small p.half_tiled p.selects c.loop-m.invariant (rw c.wide-m-end.ensures.0 at c.loop-m-test.true)

pub returns-in_err-conflict_on : goal.returns-in_err-conflict_on
unfolding merge_mip merge_run
returns-in_err-conflict_on c =
    let p = c.requires in let e : c.from_residual.result ≡ Err c.in_err-conflict_on.field-0.0 = search rules in
    rw e (selector_stop p.half_tiled p.selects c.loop-m.invariant (rw c.wide-m-end.ensures.0 at c.loop-m-test.true)
    c.merge_mip-met.ensures _ (rw c.in_err-conflict_on.was at (sym c.conflict_on.ensures)))

pub loop-m-preserved : goal.loop-m-preserved
loop-m-preserved c = let p = c.requires in
    selector_turn p.half_tiled p.selects c.loop-m.invariant (rw c.wide-m-end.ensures.0 at c.loop-m-test.true)
    c.merge_mip-met.ensures (rw c.in_ok-conflict_on.was at (sym c.conflict_on.ensures))

pub returns : goal.returns
unfolding merge_mip merge_run
returns c = let p = c.requires in
    selector_end p.half_tiled p.selects c.loop-m.invariant (rw c.wide-m-end.ensures.0 at c.loop-m-test.false)
