-- `open_tracker`: the table that is opened, seen as a tracker.
use Rattle.call_open.proofs.{Cleared.opened_tracker}
use Rattle.call_open.proofs.open_tracker.Goals as goal

pub returns : goal.returns
returns c =
    let b = rw c.min-room.ensures at c.open_table.ensures in
    record { answer = b.answer; content = b.content; view = λ o. opened_tracker b o _ _ }
