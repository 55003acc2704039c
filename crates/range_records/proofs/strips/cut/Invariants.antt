-- In `cut` w records are left to write, i to read, and `edge` is where the last one that was written starts.
use Rattle.std.specs.Prelude.{◌≡◌, ◌≤◌, length}
use Rattle.range_records.specs.Passes.{cutting}
use Rattle.range_records.proofs.strips.cut.Given as goal

abbrev pub invariant-loop-w : goal.invariant-loop-w
invariant-loop-w l = record {
  inside : l.i ≤ length l.fn.run;
  on : cutting l.w l.i l.edge l.start l.end l.default l.run ≡ cutting l.n l.told l.top l.start l.end l.default l.fn.run;
}
