-- `slot_fits` looks at what an index holds where a half is Many; otherwise the words are the whole test.
use Rattle.model.specs.Prelude.{sym, ◌∙◌}
use Rattle.set_wellformed.proofs.Telling.{tracker_plain}
use Rattle.set_wellformed.proofs.unknowns.Ends.slot_fits.Goals as goal

pub returns-then-plain_pair : goal.returns-then-plain_pair
returns-then-plain_pair c =
    let s = c.args.self.now in
    c.if-plain_pair.true ∙ sym (tracker_plain s.start.table.now s.start.ranges.now s.end.ranges.now c.args.i c.requires.words
    (rw s.start.flags_are at (sym c.plain_pair.ensures ∙ c.if-plain_pair.true)))
