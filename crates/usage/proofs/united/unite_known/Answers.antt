-- `unite_known` takes the union less UNKNOWN and tests it.
use Rattle.model.specs.Prelude.{sym, ◌∙◌, eq-eqb, ne_eqb}
use Rattle.model.specs.StateRules.{unite_known}
use Rattle.usage.specs.StateLaws.{invalid_is}
use Rattle.usage.proofs.united.unite_known.Goals as goal

pub returns-then-u-eq0 : goal.returns-then-u-eq0
unfolding unite_known
returns-then-u-eq0 c = let l = c.less-u.ensures in let e = rw c.union.ensures at l in
    rw (← e, eq-eqb _ _ c.if-u-eq0.true)

pub returns-then-incompatible : goal.returns-then-incompatible
unfolding unite_known
returns-then-incompatible c = let l = c.less-u.ensures in let e = rw c.union.ensures at l in
    let i = invalid_is _ _ ∙ sym c.incompatible.ensures ∙ c.if-incompatible.true in
    rw (← e, ne_eqb _ _ c.if-u-eq0.false, i)

pub returns : goal.returns
unfolding unite_known
returns c = let l = c.less-u.ensures in let e = rw c.union.ensures at l in
    let i = invalid_is _ _ ∙ sym c.incompatible.ensures ∙ c.if-incompatible.false in
    rw (← e, ne_eqb _ _ c.if-u-eq0.false, i)
