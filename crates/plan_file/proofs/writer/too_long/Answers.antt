-- `too_long` tells whether a group holds too much: by the length of the file, or from the longest of them.
use Rattle.plan_file.specs.Items.{wide_in}
use Rattle.plan_file.proofs.WriteAnswers.{short_enough}
use Rattle.plan_file.proofs.writer.too_long.Goals as goal

pub returns-then-total-le65538 : goal.returns-then-total-le65538
returns-then-total-le65538 c = short_enough _ (wide_in c.args.items.now c.told-items) c.requires c.if-total-le65538.true
