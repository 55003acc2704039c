-- THE CONTRACTS of the calls that merge into a scope, of what is lent, and a primed name for what they leave.
use Rattle.std.specs.Prelude.{◌&&◌}
use Rattle.model.specs.Prelude.{ℕ, Option}
use Rattle.model.specs.declared.{Extent.Extent, Selector.Selector, TrackerIndex.TrackerIndex}
use Rattle.model.specs.{Calls.{merge_single, merge_usage_scope}, Log.Outcome, Texture.ranged}
use Rattle.set_storage.specs.{Lent.{LentScope, scope_in, scope_test}, Stays.{Only, OwnedBy}}
use Rattle.call_merge.specs.Merged.{Merged}

-- `merge_single`
abbrev pub MergeSingle : LentScope → TrackerIndex → Extent → Option Selector → ℕ → Outcome → LentScope → Type 0
MergeSingle s i sh q st x s' =
    Merged (Only i.0) (scope_test s) (merge_single ranged (scope_in s) i.0 sh q st)
    s.table s.ranges x s'.table s'.ranges

-- `merge_usage_scope`: the given scope g is only read
abbrev pub MergeUsageScope : LentScope → LentScope → Outcome → LentScope → Type 0
MergeUsageScope s g x s' =
    Merged (OwnedBy g.table) (scope_test s && scope_test g) (merge_usage_scope ranged (scope_in s) (scope_in g))
    s.table s.ranges x s'.table s'.ranges
