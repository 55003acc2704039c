-- `track_merge_logs`: the call beneath, told in numbers, with the rest as a part of the first log or of the second.
use Rattle.model.specs.Prelude.{Ok, Err}
use Rattle.model.specs.declared.CallError.TheVariants.{Refused}
use Rattle.exports.specs.{LogAnswers.merge_told, SetAnswers.head_of}
use Rattle.exports.proofs.LogAnswerLaws.{rest_lies, merge_meets}
use Rattle.exports.proofs.logs.track_merge_logs.Goals as goal

pub merged-requires : goal.merged-requires
merged-requires c = rest_lies {x = merge_told (Ok tt) c.in-Ok.x.head c.in-Ok.x.rest} c.in-Ok.ensures

pub merged-requires-in-Err : goal.merged-requires-in-Err
merged-requires-in-Err c =
    let given = head_of c.args.written c.args.free in
    rest_lies {x = merge_told (Err (Refused c.in-Err.x.refusal)) given c.in-Err.x.rest} c.in-Err.ensures

pub returns-in-Ok : goal.returns-in-Ok
returns-in-Ok c =
    let w = merge_meets {x = merge_told (Ok tt) c.in-Ok.x.head c.in-Ok.x.rest} c.in-Ok.ensures c.merged.ensures in
    record { value = w.0; merges_logs = w.1 }

pub returns-in-Err : goal.returns-in-Err
returns-in-Err c =
    let given = head_of c.args.written c.args.free in
    let x = merge_told (Err (Refused c.in-Err.x.refusal)) given c.in-Err.x.rest in
    let w = merge_meets {x = x} c.in-Err.ensures c.merged-in-Err.ensures in
    record { value = w.0; merges_logs = w.1 }
