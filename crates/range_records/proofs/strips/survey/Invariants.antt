-- `survey` has scanned the records so far.
use Rattle.std.specs.Prelude.{◌≡◌, take}
use Rattle.range_records.specs.Passes.{begun, scanned}
use Rattle.range_records.proofs.strips.survey.Given as goal

abbrev pub invariant-loop-r : goal.invariant-loop-r
invariant-loop-r l = l.s ≡ scanned l.start l.end begun (take l.r-index l.used)
