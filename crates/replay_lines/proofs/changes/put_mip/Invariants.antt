-- each turn of `put_mip` takes a word at most
use Rattle.std.proofs.Common.{◌+◌, ◌≤◌}
use Rattle.replay_lines.proofs.changes.put_mip.Given as goal

abbrev pub invariant-loop-i : goal.invariant-loop-i
invariant-loop-i g l = g.S.Source.left l.fn.words.rest ≤ g.S.Source.left l.words.rest + (l.i + 1)
