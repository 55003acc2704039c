-- `read` judges the file without room for any item, and reads it again where its items fit.
use Rattle.std.proofs.Common.{rules, ◌≡◌, Err}
use Rattle.plan_file.proofs.ReadAnswers.{reads_no, reads_short, reads_done}
use Rattle.plan_file.proofs.reader.read.Goals as goal

pub returns-in_err-count : goal.returns-in_err-count
returns-in_err-count c =
    let e : c.from_residual.result ≡ Err c.in_err-count.field-0.0 = search rules in
    rw e (reads_no _ _ c.in_err-count.ensures)

pub returns-then-items-count : goal.returns-then-items-count
returns-then-items-count c = reads_short _ _ c.in_ok-count.ensures c.if-items-count.true

pub returns : goal.returns
returns c = reads_done _ _ c.in_ok-count.ensures c.if-items-count.false c.read_group-2.ensures
