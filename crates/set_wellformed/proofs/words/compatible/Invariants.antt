-- A union of no bit or one decides; otherwise index by index, the first that is not compatible.
use Rattle.model.specs.Prelude.{true}
use Rattle.model.specs.Base.{every}
use Rattle.std.specs.Prelude.{◌≡◌}
use Rattle.set_storage.specs.Storage.{list_from}
use Rattle.set_wellformed.specs.{Unknowns.itself, Words.word_left}
use Rattle.set_wellformed.proofs.words.compatible.Given as goal

abbrev pub invariant-loop-i : goal.invariant-loop-i
invariant-loop-i l = every (word_left l.end l.table) (list_from itself 0 l.i) ≡ true
