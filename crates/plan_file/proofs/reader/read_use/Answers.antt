-- `read_use` refuses what is not 15 bytes, and writes the item otherwise.
use Rattle.std.proofs.Common.{append-nil}
use Rattle.plan_file.proofs.Readers.{use_taken}
use Rattle.plan_file.proofs.reader.read_use.Goals as goal

pub returns : goal.returns
returns c =
    use_taken c.if-content-ne15.false
    (rw (c.bare_item-item.ensures, c.copy_from_slice.ensures.after, append-nil c.args.content.now) at c.put.ensures)
