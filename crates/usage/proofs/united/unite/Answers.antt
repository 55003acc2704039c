-- `unite` takes the union and tests it.
use Rattle.model.specs.Prelude.{sym, ◌∙◌}
use Rattle.model.specs.StateRules.{unite}
use Rattle.usage.specs.StateLaws.{invalid_is}
use Rattle.usage.proofs.united.unite.Goals as goal

pub returns-then-incompatible : goal.returns-then-incompatible
unfolding unite
returns-then-incompatible c = let i = invalid_is _ _ ∙ sym c.incompatible.ensures ∙ c.if-incompatible.true in
    rw (← c.union-u.ensures, i)

pub returns-else-incompatible : goal.returns-else-incompatible
unfolding unite
returns-else-incompatible c = let i = invalid_is _ _ ∙ sym c.incompatible.ensures ∙ c.if-incompatible.false in
    rw (← c.union-u.ensures, i)
