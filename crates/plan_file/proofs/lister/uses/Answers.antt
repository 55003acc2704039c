-- `uses` counts the uses, and lists them where there is room for all.
use Rattle.std.proofs.Common.{arith, ◌∙◌, sym}
use Rattle.plan_file.specs.{Items.events_are, UsesLaws.{list_start, list_room, list_use, list_other, uses_short, uses_done}}
use Rattle.plan_file.proofs.lister.uses.Goals as goal
use Rattle.plan_file.proofs.lister.uses.Goals.{then-is_use, else-is_use}

pub returns-then-list-count : goal.returns-then-list-count
returns-then-list-count c =
    uses_short _ _ _ _ (events_are c.args.items.now c.as_chunks.ensures.front) c.count_of-count.ensures c.if-list-count.true

pub loop-item-init : goal.loop-item-init
loop-item-init c = list_start _ _ (omega (arith, c.count_of-count.ensures, c.if-list-count.false))

pub put_use-requires : goal.put_use-requires
put_use-requires c =
    list_room c.loop-item.invariant c.loop-item-test.true (sym c.is_use.ensures ∙ c.if-is_use.true) c.loop-item.auto.list

pub loop-item-preserved : goal.loop-item-preserved
loop-item-preserved c = elim c.if-is_use.branch [
  | then-is_use w ↦ rw (w.list-is, w.at-is)
      (list_use c.loop-item.invariant c.loop-item-test.true (sym c.is_use.ensures ∙ w.if-is_use.true)
      c.loop-item.auto.list w.put_use.ensures)
  | else-is_use w ↦ rw (w.list-is, w.at-is)
      (list_other c.loop-item.invariant c.loop-item-test.true (sym c.is_use.ensures ∙ w.if-is_use.false))
]

pub returns : goal.returns
returns c =
    uses_done _ _ _ _ (events_are c.args.items.now c.as_chunks.ensures.front) c.count_of-count.ensures c.if-list-count.false
    c.loop-item.invariant c.loop-item-test.false
