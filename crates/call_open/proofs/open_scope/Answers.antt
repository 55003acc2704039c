-- `open_scope`: the table that is opened, seen as a scope.
use Rattle.call_open.proofs.{Cleared.opened_scope}
use Rattle.call_open.proofs.open_scope.Goals as goal

pub returns : goal.returns
returns c = let b = c.open_table.ensures in record { answer = b.answer; content = b.content; view = λ o. opened_scope b o _ }
