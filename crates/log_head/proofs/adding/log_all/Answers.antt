-- `log_all`: the entries fit, by their count or since there are as many free as could be added, and they are written.
use Rattle.model.specs.Prelude.{arith, length}
use Rattle.std.specs.Prelude.{◌-◌, ◌≤◌, ◌≡◌}
use Rattle.std.proofs.Common.{rules}
use Rattle.log_head.specs.Called.{wrote}
use Rattle.log_head.proofs.adding.log_all.Goals.{then-head-most+else-head-counted, else-head-most}
use Rattle.log_head.proofs.adding.log_all.Goals as goal

pub returns : goal.returns
returns g c =
    let es = g.T.Transitions.entries c.args.adding.now in
    let fits : length es ≤ c.args.head.free = elim c.if-head-most.branch [
      | then-head-most+else-head-counted w ↦ omega (arith, w.log.ensures, w.if-head-counted.false)
      | else-head-most w ↦ omega (arith, c.requires.most, w.if-head-most.false)
    ] in
    let w = c.log-2.ensures in
    let name = w.log in
    let n : c.log-2.new.sink.at - c.args.head.written ≡ length es = omega (arith, w.count) in
    wrote c.requires.head_value fits w.content (search rules)
    (rw n at c.moved_on.ensures)
