-- `merge_run` is a pass that a conflict stops.
use Rattle.model.specs.Prelude.{sym}
use Rattle.texture_mips.proofs.{Passing.{turn, halt, finish}, Walking.{stops_at, goes_on, takes}}
use Rattle.texture_mips.proofs.uniting.merge_run.Goals as goal

pub returns-in_default : goal.returns-in_default
returns-in_default c =
    halt c.requires.to_in_bounds c.loop-k.invariant c.loop-k-test.true c.get-r.ensures
    (stops_at _ _ c.get-r.result (sym (rw c.in_default.is at c.unite_known.ensures)))

pub loop-k-preserved : goal.loop-k-preserved
loop-k-preserved c =
    let e = sym (rw c.in-Some.is at c.unite_known.ensures) in
    turn c.requires.to_in_bounds c.loop-k.invariant c.loop-k-test.true c.get-r.ensures
    (goes_on _ _ _ c.get-r.result e) (rw (takes _ _ _ c.get-r.result e) c.put.ensures)

pub returns : goal.returns
returns c = search finish
