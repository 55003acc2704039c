-- `count_of` has counted the uses among the items gone through.
use Rattle.std.proofs.Common.{◌≡◌, take, List, ℕ}
use Rattle.std.specs.List.{count_by}
use Rattle.plan_file.specs.{Items.event_in, Uses.is_use}
use Rattle.plan_file.proofs.lister.count_of.Given as goal

abbrev pub invariant-loop-item : goal.invariant-loop-item
invariant-loop-item l = l.count ≡ count_by (λ (it : List ℕ). is_use (event_in it)) (take l.item-index l.items)
