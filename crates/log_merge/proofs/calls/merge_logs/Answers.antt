-- `merge_logs` hands over what `merge_at` told, and the part that `rest_of` returns.
use Rattle.model.specs.Prelude.{Ok, Err}
use Rattle.log_merge.proofs.Merging.{handed_over}
use Rattle.log_merge.proofs.calls.merge_logs.Goals as goal

pub returns-in-Ok : goal.returns-in-Ok
returns-in-Ok c = handed_over c.args.first c.args.second (Ok c.rest_of.result) c.in-Ok.ensures c.rest_of.ensures

pub returns-in-Err : goal.returns-in-Err
returns-in-Err c = handed_over c.args.first c.args.second (Err _) c.in-Err.ensures c.rest_of-rest.ensures
