-- `slot_fits` looks at the ranges of an index that is Many; of any other the words are the whole test.
use Rattle.model.specs.Prelude.{sym, ◌∙◌}
use Rattle.set_wellformed.proofs.Telling.{scope_plain, scope_many}
use Rattle.set_wellformed.proofs.half.Half.slot_fits.Goals as goal

pub returns-then-plain_pair : goal.returns-then-plain_pair
returns-then-plain_pair c =
    let s = c.args.self.now in
    c.if-plain_pair.true ∙ sym (scope_plain s.table.now s.ranges.now c.args.i c.requires.words
    (rw s.flags_are at (sym c.plain_pair.ensures ∙ c.if-plain_pair.true)))

pub returns-else-plain_pair : goal.returns-else-plain_pair
returns-else-plain_pair c =
    let s = c.args.self.now in
    rw c.requires.half at c.mips_fit.ensures
    ∙ scope_many s.table.now s.ranges.now c.args.i c.requires.words
    (rw s.flags_are at (sym c.plain_pair.ensures ∙ c.if-plain_pair.false)) c.requires.texture
