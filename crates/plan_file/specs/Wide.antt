-- Uses of 15 bytes: of an event, of events, and of what reading comes to.
use Rattle.std.specs.Prelude.{◌≡◌}
use Rattle.model.specs.Prelude.{List, length}
use Rattle.model.specs.Base.{All}
use Rattle.plan_file.specs.Plan.{Event, opened, used, closed, other, Read, took, no}

abbrev pub WideUse : Event → Type 0
WideUse opened = Unit
WideUse (used p) = length p ≡ 15
WideUse closed = Unit
WideUse other = Unit

abbrev pub Wide : List Event → Type 0
Wide es = All WideUse es

abbrev pub WideRead : Read → Type 0
WideRead (took es) = Wide es
WideRead (no r) = Unit
