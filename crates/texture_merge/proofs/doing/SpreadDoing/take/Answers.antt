-- A piece is spread: a conflict leaves the mips, and otherwise those of the piece take the union.
use Rattle.std.specs.Prelude.{◌≡◌}
use Rattle.std.proofs.Common.{rules}
use Rattle.model.specs.Prelude.{refl, sym, ◌∙◌, Err}
use Rattle.model.specs.Texture.{spread_piece}
use Rattle.set_storage.specs.Stays.{keeps_refl}
use Rattle.texture_merge.proofs.Unions.{no_union}
use Rattle.texture_merge.proofs.doing.SpreadDoing.take.Goals as goal

pub returns-in_err-state : goal.returns-in_err-state
unfolding spread_piece
returns-in_err-state c =
    let e : c.from_residual.result ≡ Err c.in_err-state.field-0.0 = search rules in
    let n = no_union c.ok_or.ensures.value c.in_err-state.was in let u = sym c.unite.ensures ∙ n.0 in
    rw (e, n.1, u) record { conflict = refl; into = record { mips = refl; frame = keeps_refl _ _ } }

pub returns : goal.returns
unfolding spread_piece
returns c =
    let e = sym c.unite.ensures ∙ (rw c.in_ok-state.was at c.ok_or.ensures.ok_part) in
    rw e record { conflict = refl; into = c.edit_mips.ensures }
