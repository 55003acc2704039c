-- `clip` has written the first w records of the second run.
use Rattle.std.specs.Prelude.{◌≡◌}
use Rattle.range_records.specs.Passes.{clipping}
use Rattle.range_records.proofs.strips.clip.Given as goal

abbrev pub invariant-loop-w : goal.invariant-loop-w
invariant-loop-w l = l.out ≡ clipping l.w l.first l.start l.end l.run l.fn.out
