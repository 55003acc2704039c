-- `check_set`: the flags, then whether every index passes; where one may not, index by index.
use Rattle.std.proofs.Common.{rules}
use Rattle.model.specs.Prelude.{arith}
use Rattle.set_checks.proofs.{Firsts.{set_differs, set_passes}, Passing.passes_none}
use Rattle.set_checks.proofs.sets.check_set.Goals as goal

pub returns-then-not-same_flags : goal.returns-then-not-same_flags
returns-then-not-same_flags c = set_differs (search rules)

pub returns : goal.returns
returns c =
    let all = rw c.wide.ensures.0 at c.all_pass.ensures c.if-not-all_pass.false in
    set_passes (search rules) (λ i h. passes_none _ _ i (omega arith) (all.each i h))
