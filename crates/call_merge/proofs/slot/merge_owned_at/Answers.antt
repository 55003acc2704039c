-- `merge_owned_at`: what the given scope does not own leaves the texture, otherwise it takes what the scope holds.
use Rattle.model.specs.Prelude.{ne_eqb}
use Rattle.set_ready.specs.Given.{where_owned, only_owned_lem}
use Rattle.call_merge.specs.Slot.{scope_named}
use Rattle.call_merge.proofs.slot.merge_owned_at.Goals as goal

pub merge_given_at-requires : goal.merge_given_at-requires
merge_given_at-requires c =
    let p = c.requires in let w = where_owned _ c.if-given-i-eq0.false p.owned_ready in
    rw c.extent_of.ensures (record { half_ready = w.0; half_given = w.1; p_value = p.p_value })

pub returns : goal.returns
returns c =
    let theirs = c.if-given-i-eq0.false in
    rw (ne_eqb _ _ theirs)
    (scope_named (only_owned_lem _ theirs) (rw c.extent_of.ensures at c.merge_given_at.ensures))
