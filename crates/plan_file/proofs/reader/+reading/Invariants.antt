-- The depth falls from a group to what it holds: the measure is twice the depth, and one more for the group reader, which calls the field
-- reader at its own depth. What the group reader is told of the rest is told of all.
use Rattle.std.proofs.Common.{length, ◌+◌, ◌*◌}
use Rattle.plan_file.proofs.Readers.{Going}
use Rattle.plan_file.proofs.reader.+reading.Given as goal

abbrev pub decreases-read_field : goal.decreases-read_field
decreases-read_field l = 2 * l.depth

abbrev pub decreases-read_group : goal.decreases-read_group
decreases-read_group l = 2 * l.depth + 1

abbrev pub invariant-read_group-loop-rest : goal.invariant-read_group-loop-rest
invariant-read_group-loop-rest l = Going l.s l.depth l.k l.fn.items l.rest l.count l.items

abbrev pub decreases-read_group-loop-rest : goal.decreases-read_group-loop-rest
decreases-read_group-loop-rest l = length l.rest
