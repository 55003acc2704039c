-- `weave_both` moves the entry that goes next, until a log is used up.
use Rattle.std.specs.Prelude.{◌≡◌, ◌<◌}
use Rattle.std.proofs.Common.{rules}
use Rattle.model.specs.Prelude.{length, drop}
use borrow.Author.Rules.{part_to_end}
use Rattle.log_merge.proofs.Weaving.{weaving_start, third_room, first_turn, first_end, second_turn, second_end}
use Rattle.log_merge.proofs.weave.weave_both.Goals as goal

pub loop-y-init : goal.loop-y-init
loop-y-init c = weaving_start _ _ _ _ c.requires.not_empty c.requires.weavable

pub put_entry-requires : goal.put_entry-requires
put_entry-requires c = third_room c.loop-y.invariant

pub returns-then-is_empty : goal.returns-then-is_empty
returns-then-is_empty c =
    let q = rw (part_to_end c.loop-y.b.now 7) at c.is_empty.ensures in
    let left : length (drop 7 c.loop-y.b.now) ≡ 0 = search rules in
    second_end c.loop-y.invariant c.if-y-x.true c.get_entry.ensures c.put_entry.ensures left

pub loop-y-preserved-then-y-x : goal.loop-y-preserved-then-y-x
loop-y-preserved-then-y-x c =
    let q = rw (part_to_end c.loop-y.b.now 7) at c.is_empty.ensures in
    let left : 0 < length (drop 7 c.loop-y.b.now) = search rules in
    rw (part_to_end c.loop-y.b.now 7) (second_turn c.loop-y.invariant c.if-y-x.true c.get_entry.ensures c.put_entry.ensures left)

pub put_entry-requires-else-y-x : goal.put_entry-requires-else-y-x
put_entry-requires-else-y-x c = third_room c.loop-y.invariant

pub returns-then-is_empty-2 : goal.returns-then-is_empty-2
returns-then-is_empty-2 c =
    let q = rw (part_to_end c.loop-y.a.now 7) at c.is_empty-else-y-x.ensures in
    let left : length (drop 7 c.loop-y.a.now) ≡ 0 = search rules in
    first_end c.loop-y.invariant c.if-y-x.false c.get_entry-else-y-x.ensures c.put_entry-else-y-x.ensures left

pub loop-y-preserved : goal.loop-y-preserved
loop-y-preserved c =
    let q = rw (part_to_end c.loop-y.a.now 7) at c.is_empty-else-y-x.ensures in
    let left : 0 < length (drop 7 c.loop-y.a.now) = search rules in
    rw (part_to_end c.loop-y.a.now 7)
    (first_turn c.loop-y.invariant c.if-y-x.false c.get_entry-else-y-x.ensures c.put_entry-else-y-x.ensures left)
