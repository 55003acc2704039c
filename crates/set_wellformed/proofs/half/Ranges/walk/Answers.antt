-- `walk` goes through both lists at once; the first two states that differ decide.
use Rattle.model.specs.Prelude.{arith, sym, ◌∙◌}
use Rattle.set_wellformed.proofs.Agreeing.{walk_start, still, walk_differ, walk_turn, walk_end, passed_some}
use Rattle.set_wellformed.proofs.half.Ranges.walk.Goals as goal

pub loop-i-init : goal.loop-i-init
loop-i-init c = (omega arith, (omega arith, walk_start c.requires))

pub get-y-requires : goal.get-y-requires
get-y-requires c =
    let h = still c.requires c.loop-i.invariant.1.1 c.loop-i-test.true c.get-x.ensures c.loop-i.invariant.1.0 in
    omega (arith, c.requires.right)

pub returns-then-not-states_agree : goal.returns-then-not-states_agree
returns-then-not-states_agree c =
    walk_differ c.requires c.loop-i.invariant.1.1 c.loop-i-test.true c.get-x.ensures
    (still c.requires c.loop-i.invariant.1.1 c.loop-i-test.true c.get-x.ensures c.loop-i.invariant.1.0) c.get-y.ensures
    (sym c.states_agree.ensures ∙ (c.if-not-states_agree.true))

pub loop-i-smaller : goal.loop-i-smaller
loop-i-smaller c =
    let h = still c.requires c.loop-i.invariant.1.1 c.loop-i-test.true c.get-x.ensures c.loop-i.invariant.1.0 in
    let s = passed_some c.get-x.result.end c.get-y.result.end in
    omega (arith, c.advance-i.ensures.0, c.advance-j.ensures.0, c.advance-i.ensures.1, c.advance-j.ensures.1)

pub loop-i-preserved : goal.loop-i-preserved
loop-i-preserved c =
    let h = still c.requires c.loop-i.invariant.1.1 c.loop-i-test.true c.get-x.ensures c.loop-i.invariant.1.0 in (
      omega arith,
      (
        omega arith,
        rw (c.advance-i.ensures.0, c.advance-j.ensures.0)
            (walk_turn c.requires c.loop-i.invariant.1.1 c.loop-i-test.true c.get-x.ensures
            (still c.requires c.loop-i.invariant.1.1 c.loop-i-test.true c.get-x.ensures c.loop-i.invariant.1.0) c.get-y.ensures
            (sym c.states_agree.ensures ∙ (c.if-not-states_agree.false))),
      ),
    )

pub returns : goal.returns
returns c = walk_end c.requires c.loop-i.invariant.1.1 c.loop-i.invariant.0 c.loop-i-test.false
