-- `survey` scans one record more in each turn, and no count is above the number of records.
use Rattle.model.specs.Prelude.{arith, ◌∙◌, length, take, length-take}
use Rattle.std.specs.Prelude.{◌<◌, ◌≤◌}
use Rattle.range_records.specs.Passes.{begun}
use Rattle.range_records.proofs.{Laws.Loops.{scanned_none, scanned_more}, Laws.Survey.scanned_few}
use Rattle.range_records.proofs.strips.survey.Goals as goal

pub loop-r-init : goal.loop-r-init
loop-r-init c = scanned_none c.args.start c.args.end begun c.args.used.now

pub look-s-requires : goal.look-s-requires
look-s-requires c =
    let rs = take c.loop-r.r-index c.args.used.now in
    let few : length rs ≤ 9223372036854775807 = omega (arith, length-take c.loop-r.r-index c.args.used.now) in
    rw c.loop-r.invariant (scanned_few c.args.start c.args.end 9223372036854775807 rs few)

pub loop-r-preserved : goal.loop-r-preserved
loop-r-preserved c =
    let k = c.loop-r.r-index in let inside : k < length c.args.used.now = omega arith in
    c.look-s.ensures ∙ rw c.loop-r.invariant (scanned_more k c.args.start c.args.end begun c.args.used.now inside)
