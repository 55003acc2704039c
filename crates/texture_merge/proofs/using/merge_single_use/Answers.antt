-- `merge_single_use`: a conflict leaves the texture, a union is the word, and a part breaks the texture up.
use Rattle.model.specs.Prelude.{sym, ◌∙◌, Err}
use Rattle.std.specs.Prelude.{◌≡◌}
use Rattle.std.proofs.Common.{rules}
use Rattle.texture_merge.specs.Uses.{use_with}
use Rattle.texture_merge.proofs.{Unions.no_union, UseCases.{union_plain, conflict_left, all_left, part_left}}
use Rattle.texture_merge.proofs.using.merge_single_use.Goals as goal

pub returns-in_err-u : goal.returns-in_err-u
returns-in_err-u c =
    let e : c.from_residual.result ≡ Err c.in_err-u.field-0.0 = search rules in let n = no_union c.ok_or.ensures.value c.in_err-u.was in
    rw (e, n.1, c.unwrap_or.ensures, c.full.ensures)
    (conflict_left c.requires.use_ready c.requires.single_ready (sym c.unite.ensures ∙ n.0))

pub returns-in-None : goal.returns-in-None
returns-in-None c =
    let p = c.requires in let u = sym c.unite.ensures ∙ (rw c.in_ok-u.was at c.ok_or.ensures.ok_part) in
    rw c.set_state.ensures (all_left p.use_ready p.single_ready _ u c.in-None.is)

pub break_up-requires : goal.break_up-requires
break_up-requires c =
    let p = c.requires in let u = sym c.unite.ensures ∙ (rw c.in_ok-u.was at c.ok_or.ensures.ok_part) in
    use_with _ (rw c.in-Some.is at p.use_ready) (union_plain p.use_ready p.single_ready _ u)

pub returns-in-Some : goal.returns-in-Some
returns-in-Some c =
    let p = c.requires in let u = sym c.unite.ensures ∙ (rw c.in_ok-u.was at c.ok_or.ensures.ok_part) in
    part_left p.use_ready p.single_ready _ u c.in-Some.is c.break_up.ensures
