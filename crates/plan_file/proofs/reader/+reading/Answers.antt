-- `read_field` and `read_group`, which call each other, read a field and a run of fields as the definition does.
use Rattle.std.proofs.Common.{rules, ◌≡◌, ◌<◌, length, Some, None, Err}
use Rattle.model.specs.declared.Refusal.TheVariants.{FieldCutShort}
use Rattle.plan_file.proofs.Readers.{takes_group, finishes, refuses_cut, turns, stops}
use Rattle.plan_file.proofs.reader.+reading.Goals as goal

-- the field reader: a group
pub read_field-returns-in_ok-count-in-Some-Group : goal.read_field-returns-in_ok-count-in-Some-Group
read_field-returns-in_ok-count-in-Some-Group t c =
    takes_group (rw c.in-Some-Group.field-0-is at c.in-Some-Group.ensures) c.if-depth-eq0.false (rw c.bare_item.ensures at c.put.ensures)
    c.in_ok-count-in-Some-Group.ensures (rw c.bare_item-in-Some-Group.ensures at c.put-in-Some-Group.ensures)

-- the group reader: a field that is cut short, a refusal passed on, a field that was read, and the end
pub read_group-returns-in_err-field : goal.read_group-returns-in_err-field
read_group-returns-in_err-field t c =
    let some : 0 < length c.loop-rest.rest.now = search rules in
    let cut : c.split_field.result ≡ None = search rules in
    let e : c.from_residual.result ≡ Err FieldCutShort = search rules in
    rw e (refuses_cut c.loop-rest.invariant some (rw cut at c.split_field.ensures))

pub read_group-returns-in_err-count : goal.read_group-returns-in_err-count
read_group-returns-in_err-count t c =
    let some : 0 < length c.loop-rest.rest.now = search rules in
    let whole : c.split_field.result ≡ Some c.in_ok-field.field = search rules in
    let e : c.from_residual-in_err-count.result ≡ Err c.in_err-count.field-0.0 = search rules in
    rw e (stops c.loop-rest.invariant some (rw whole at c.split_field.ensures) c.in_err-count.ensures)

pub read_group-loop-rest-preserved : goal.read_group-loop-rest-preserved
read_group-loop-rest-preserved t c =
    let some : 0 < length c.loop-rest.rest.now = search rules in
    let whole : c.split_field.result ≡ Some c.in_ok-field.field = search rules in
    turns c.loop-rest.invariant some (rw whole at c.split_field.ensures) c.in_ok-count.ensures

pub read_group-returns : goal.read_group-returns
read_group-returns t c =
    let none : length c.loop-rest.rest.now ≡ 0 = search rules in
    finishes c.loop-rest.invariant none
