-- `index_at` reads the first number of an entry.
use Rattle.model.specs.Prelude.{ap}
use Rattle.texture_barrier.specs.Entries.{get_entry_is}
use Rattle.log_merge.specs.Merge.{index_of}
use Rattle.log_merge.proofs.order.index_at.Goals as goal

pub returns : goal.returns
returns c = ap index_of (get_entry_is _ _ c.requires)
