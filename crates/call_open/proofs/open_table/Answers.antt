-- `open_table`: what `check` answers is told, and only an opening that is not refused writes.
use Rattle.std.proofs.Common.{rules}
use Rattle.std.specs.Prelude.{◌≡◌}
use Rattle.model.specs.Prelude.{None, Some, Err}
use Rattle.call_open.proofs.{Cleared.{few_of, table_opened}}
use Rattle.call_open.proofs.open_table.Goals as goal

pub returns-in_err-check : goal.returns-in_err-check
returns-in_err-check c =
    let e : c.from_residual.result ≡ Err c.in_err-check.field-0.0 = search rules in
    rw e (table_opened _ _ _ _ _ _ _ (search rules) (Some _) c.in_err-check.ensures)

pub clear-requires : goal.clear-requires
clear-requires c = rw c.wide.ensures.0 (few_of _ _ _ _ _ _ c.in_ok-check.ensures)

pub returns : goal.returns
returns c = rw (c.clear.ensures, c.write_head.ensures, c.wide.ensures.0)
    (table_opened _ _ _ _ _ _ _ (search rules) None c.in_ok-check.ensures)
