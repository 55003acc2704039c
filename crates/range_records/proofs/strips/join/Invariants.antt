-- In `join` i records are read, `len` are written, and `last` is the last of them.
use Rattle.std.specs.Prelude.{◌≡◌, ◌≤◌, ◌-◌}
use Rattle.range_states.specs.View.{blank}
use Rattle.range_records.specs.Passes.{joining}
use Rattle.range_records.proofs.strips.join.Given as goal

abbrev pub invariant-loop-i : goal.invariant-loop-i
invariant-loop-i l = record {
  behind : l.len ≤ l.i;
  on : joining (l.n - l.i) l.i l.len l.last l.run ≡ joining l.n 0 0 blank l.fn.run;
}
