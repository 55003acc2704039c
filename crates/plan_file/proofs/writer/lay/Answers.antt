-- `lay` lays the file out from its end: where it starts, an item of each kind, and the whole.
use Rattle.std.proofs.Common.{arith, refl}
use Rattle.plan_file.proofs.Laying.{lay_starts_at, lay_ends_at, opening, turn_opened, use_low, turn_used, closing, turn_closed, no_other}
use Rattle.plan_file.proofs.writer.lay.Goals as goal

pub loop-item-init : goal.loop-item-init
loop-item-init c = rw (c.into_iter-item-iterator.ensures.into_iter_gives, c.rev-item-items.ensures.source, c.iter.ensures.rest)
    (lay_starts_at c.args.items.now refl)

-- a group is opened: its end is known, and its head has room before p
pub overflow_sub-level : goal.overflow_sub-level
overflow_sub-level c =
    let o = opening c.requires c.loop-item.invariant c.told-items _ c.in-Some.item.now c.in-Some.ensures.steps
    (rw c.in-Some-Opened.field-0-is at c.in-Some-Opened.ensures) in o.some

pub offset_bounds-ends-level : goal.offset_bounds-ends-level
offset_bounds-ends-level c =
    let o = opening c.requires c.loop-item.invariant c.told-items _ c.in-Some.item.now c.in-Some.ensures.steps
    (rw c.in-Some-Opened.field-0-is at c.in-Some-Opened.ensures) in omega (arith, o.some, o.low)

pub bounds-ends-level : goal.bounds-ends-level
bounds-ends-level c =
    let o = opening c.requires c.loop-item.invariant c.told-items _ c.in-Some.item.now c.in-Some.ensures.steps
    (rw c.in-Some-Opened.field-0-is at c.in-Some-Opened.ensures) in omega (arith, o.some, o.low)

pub overflow_sub-size : goal.overflow_sub-size
overflow_sub-size c =
    let o = opening c.requires c.loop-item.invariant c.told-items _ c.in-Some.item.now c.in-Some.ensures.steps
    (rw c.in-Some-Opened.field-0-is at c.in-Some-Opened.ensures) in omega (arith, o.size)

pub overflow_sub-p : goal.overflow_sub-p
overflow_sub-p c =
    let o = opening c.requires c.loop-item.invariant c.told-items _ c.in-Some.item.now c.in-Some.ensures.steps
    (rw c.in-Some-Opened.field-0-is at c.in-Some-Opened.ensures) in o.room

pub loop-item-preserved-in-Some-Opened : goal.loop-item-preserved-in-Some-Opened
loop-item-preserved-in-Some-Opened c =
    turn_opened c.requires c.loop-item.invariant c.told-items _ c.in-Some.item.now c.in-Some.ensures.steps
    (rw c.in-Some-Opened.field-0-is at c.in-Some-Opened.ensures) c.head.ensures c.put_at.ensures c.put_at.auto.file c.max-longest.ensures

-- a use has room before p
pub overflow_sub-p-in-Some-Used : goal.overflow_sub-p-in-Some-Used
overflow_sub-p-in-Some-Used c =
    use_low c.requires c.loop-item.invariant c.told-items _ c.in-Some.item.now c.in-Some.ensures.steps
    (rw c.in-Some-Used.field-0-is at c.in-Some-Used.ensures)

pub loop-item-preserved-in-Some-Used : goal.loop-item-preserved-in-Some-Used
loop-item-preserved-in-Some-Used c =
    turn_used c.requires c.loop-item.invariant c.told-items _ c.in-Some.item.now c.in-Some.ensures.steps
    (rw c.in-Some-Used.field-0-is at c.in-Some-Used.ensures) c.use_field.ensures c.put_at-in-Some-Used.ensures
    c.put_at-in-Some-Used.auto.file

-- a group is closed: there is room for its end
pub offset_bounds-ends-level-in-Some-Closed : goal.offset_bounds-ends-level-in-Some-Closed
offset_bounds-ends-level-in-Some-Closed c =
    let l = closing c.requires c.loop-item.invariant c.told-items _ c.in-Some.item.now c.in-Some.ensures.steps
    (rw c.in-Some-Closed.field-0-is at c.in-Some-Closed.ensures) in omega (arith, l)

pub bounds-ends-level-in-Some-Closed : goal.bounds-ends-level-in-Some-Closed
bounds-ends-level-in-Some-Closed c =
    let l = closing c.requires c.loop-item.invariant c.told-items _ c.in-Some.item.now c.in-Some.ensures.steps
    (rw c.in-Some-Closed.field-0-is at c.in-Some-Closed.ensures) in omega (arith, l)

pub overflow_add-level : goal.overflow_add-level
overflow_add-level c =
    let l = closing c.requires c.loop-item.invariant c.told-items _ c.in-Some.item.now c.in-Some.ensures.steps
    (rw c.in-Some-Closed.field-0-is at c.in-Some-Closed.ensures) in omega (arith, l)

pub loop-item-preserved : goal.loop-item-preserved
loop-item-preserved c =
    turn_closed c.requires c.loop-item.invariant c.told-items _ c.in-Some.item.now c.in-Some.ensures.steps
    (rw c.in-Some-Closed.field-0-is at c.in-Some-Closed.ensures)

-- there is no other item
pub unreachable-requires : goal.unreachable-requires
unreachable-requires c =
    no_other c.requires c.loop-item.invariant c.told-items _ c.in-Some.item.now c.in-Some.ensures.steps c.in-None-of.ensures

pub returns : goal.returns
returns c = lay_ends_at c.requires c.loop-item.invariant c.in-None.ensures.steps.0
