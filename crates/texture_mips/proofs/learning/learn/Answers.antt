-- `learn` updates the mip range by range of the end.
use Rattle.texture_mips.proofs.Learnt.{room_here, turn_yes, turn_no, finish}
use Rattle.texture_mips.proofs.learning.learn.Goals as goal
use Rattle.texture_mips.proofs.learning.learn.Goals.{then-r-unknown, else-r-unknown}

pub update-n-requires : goal.update-n-requires
update-n-requires c =
    room_here c.requires.to_in_bounds c.loop-k.invariant c.loop-k-test.true c.get-r.ensures c.if-r-unknown.true

pub loop-k-preserved : goal.loop-k-preserved
loop-k-preserved c =
    let room = c.requires.to_in_bounds in let j = c.loop-k.invariant in let t = c.loop-k-test.true in let g = c.get-r.ensures in
    elim c.if-r-unknown.branch [
      | then-r-unknown w ↦ rw (w.s-is, w.n-is) (turn_yes room j t g w.if-r-unknown.true w.update-n.ensures)
      | else-r-unknown w ↦ rw (w.s-is, w.n-is) (turn_no room j t g w.if-r-unknown.false)
    ]

pub returns : goal.returns
returns c = finish c.requires.to_in_bounds c.loop-k.invariant c.loop-k-test.false
