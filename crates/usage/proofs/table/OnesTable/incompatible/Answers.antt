-- `incompatible` is the definition's two tests, the second only where the first holds.
use Rattle.model.specs.Prelude.{sym, ◌∙◌}
use Rattle.model.specs.Flags.{incompatible}
use Rattle.usage.proofs.table.OnesTable.incompatible.Goals as goal

pub returns-then-meets : goal.returns-then-meets
unfolding incompatible
returns-then-meets c = let m = sym c.meets.ensures ∙ c.if-meets.true in rw (m, c.one_bit.ensures)

pub returns-else-meets : goal.returns-else-meets
unfolding incompatible
returns-else-meets c = let m = sym c.meets.ensures ∙ c.if-meets.false in rw m c.if-meets.false
