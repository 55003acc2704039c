-- `scope_fits` tests the head, which makes storage safe to index, and then every index.
use Rattle.std.proofs.Common.{rules}
use Rattle.model.specs.Prelude.{sym, ◌∙◌}
use Rattle.set_wellformed.proofs.{Numbers.head_measured, Holding.scope_is}
use Rattle.set_wellformed.proofs.scope_fits.Goals as goal

pub new-requires-then-head_fits : goal.new-requires-then-head_fits
new-requires-then-head_fits c = head_measured _ _ (search rules) (sym c.head_fits.ensures ∙ c.if-head_fits.true)

pub returns-then-head_fits : goal.returns-then-head_fits
returns-then-head_fits c =
    let a = c.args in let h = c.new-then-head_fits.ensures in
    record {
      is = rw (scope_is a.table.now a.ranges.now, sym c.head_fits.ensures ∙ c.if-head_fits.true)
          (rw (h.table, h.ranges) at c.all_fit.ensures);
      long = search rules;
    }

pub returns-else-head_fits : goal.returns-else-head_fits
returns-else-head_fits c =
    let a = c.args in
    record {
      is = rw (scope_is a.table.now a.ranges.now, sym c.head_fits.ensures ∙ c.if-head_fits.false) c.if-head_fits.false;
      long = search rules;
    }
