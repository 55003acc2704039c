-- Every entry of the table is what its rule says: one computed test.
use Rattle.model.specs.Prelude.{refl}
use Rattle.usage.proofs.{Entries.{right, counts_ones}}
use Rattle.usage.proofs.table.OnesTable.new.Goals as goal

pub invariant_of-result : goal.invariant_of-result
unfolding right
invariant_of-result c = record { counts = counts_ones _ refl refl }
