-- `fit` tests range by range; the first that does not fit decides.
use Rattle.model.specs.Prelude.{sym, ◌∙◌}
use Rattle.set_wellformed.proofs.Tiling.{tiling_turn, bad_start, bad_end, bad_state}
use Rattle.set_wellformed.proofs.half.Ranges.fit.Goals as goal
use Rattle.set_wellformed.proofs.half.Ranges.fit.Goals.{then-r-at-via-then-r-at, then-r-at-via-else-r-at+then-r-at-2}
use Rattle.set_wellformed.proofs.half.Ranges.fit.Goals.{then-r-at-via-else-r-at+else-r-at-2+then-not-state_fits}

pub returns-then-r-at : goal.returns-then-r-at
returns-then-r-at c =
    let room = c.args.self.now.room in let j = c.loop-k.invariant in let h = c.loop-k-test.true in let g = c.get-r.ensures in
    elim c.then-r-at.branch [
      | then-r-at-via-then-r-at w ↦ bad_start room j h g w.if-r-at.true
      | then-r-at-via-else-r-at+then-r-at-2 w ↦ bad_end room j h g w.if-r-at.false w.if-r-at-2.true
      | then-r-at-via-else-r-at+else-r-at-2+then-not-state_fits w ↦
          bad_state room j h g w.if-r-at.false w.if-r-at-2.false (sym w.state_fits.ensures ∙ w.if-not-state_fits.true)
    ]

pub loop-k-preserved : goal.loop-k-preserved
loop-k-preserved c = tiling_turn c.args.self.now.room c.loop-k.invariant c.loop-k-test.true c.get-r.ensures
    c.if-r-at.false c.if-r-at-2.false (sym c.state_fits.ensures ∙ c.if-not-state_fits.false)
