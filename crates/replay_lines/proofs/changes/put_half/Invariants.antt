-- each mip takes 769 words at most
use Rattle.std.proofs.Common.{◌+◌, ◌*◌, ◌≤◌}
use Rattle.replay_lines.proofs.changes.put_half.Given as goal

abbrev pub invariant-loop-mip : goal.invariant-loop-mip
invariant-loop-mip g l = g.S.Source.left l.fn.words.rest ≤ g.S.Source.left l.words.rest + (769 * l.mip + 1)
