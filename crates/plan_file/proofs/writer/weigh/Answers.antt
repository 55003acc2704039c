-- `weigh` goes through the items from the last to the first: an item of each kind, a list that is not balanced, and the end.
use Rattle.std.proofs.Common.{rules, ◌≡◌, ◌+◌, ◌∙◌, Err}
use Rattle.model.specs.declared.Refusal.TheVariants.{PlanUnbalanced}
use Rattle.plan_file.specs.WritingLaws.{weigh_starts, weigh_opened, weigh_used, weigh_closed, weigh_none, weigh_unopened}
use Rattle.plan_file.specs.WritingLaws.{weigh_open, weigh_deep, weigh_done}
use Rattle.plan_file.proofs.writer.weigh.Goals as goal

pub loop-item-init : goal.loop-item-init
loop-item-init c = rw (c.into_iter-item-iterator.ensures.into_iter_gives, c.rev-item-items.ensures.source, c.iter.ensures.rest)
    (weigh_starts c.args.items.now)

pub returns-in_err-level-in-Some-Opened : goal.returns-in_err-level-in-Some-Opened
returns-in_err-level-in-Some-Opened c =
    let z : c.loop-item.level ≡ 0 = search rules in
    let e : c.from_residual.result ≡ Err PlanUnbalanced = search rules in
    e ∙ weigh_unopened c.loop-item.invariant _ c.in-Some.item.now c.in-Some.ensures.steps
    (rw c.in-Some-Opened.field-0-is at c.in-Some-Opened.ensures) z

pub loop-item-preserved-in-Some-Opened : goal.loop-item-preserved-in-Some-Opened
loop-item-preserved-in-Some-Opened c =
    let one : c.in_ok-level-in-Some-Opened.level + 1 ≡ c.loop-item.level = search rules in
    weigh_opened c.loop-item.invariant _ c.in-Some.item.now c.in-Some.ensures.steps
    (rw c.in-Some-Opened.field-0-is at c.in-Some-Opened.ensures) one

pub loop-item-preserved-in-Some-Used : goal.loop-item-preserved-in-Some-Used
loop-item-preserved-in-Some-Used c =
    weigh_used c.loop-item.invariant _ c.in-Some.item.now c.in-Some.ensures.steps
    (rw c.in-Some-Used.field-0-is at c.in-Some-Used.ensures)

pub loop-item-preserved : goal.loop-item-preserved
loop-item-preserved c =
    weigh_closed c.loop-item.invariant _ c.in-Some.item.now c.in-Some.ensures.steps
    (rw c.in-Some-Closed.field-0-is at c.in-Some-Closed.ensures) c.max-deepest.ensures

pub returns-in-None-of : goal.returns-in-None-of
returns-in-None-of c = weigh_none c.loop-item.invariant _ c.in-Some.item.now c.in-Some.ensures.steps c.in-None-of.ensures

pub returns-then-level-ne0 : goal.returns-then-level-ne0
returns-then-level-ne0 c = weigh_open c.loop-item.invariant c.in-None.ensures.steps.0 c.if-level-ne0.true

pub returns-then-deepest-gt8 : goal.returns-then-deepest-gt8
returns-then-deepest-gt8 c = weigh_deep c.loop-item.invariant c.in-None.ensures.steps.0 c.if-level-ne0.false c.if-deepest-gt8.true

pub returns : goal.returns
returns c = weigh_done c.loop-item.invariant c.in-None.ensures.steps.0 c.if-level-ne0.false c.if-deepest-gt8.false
