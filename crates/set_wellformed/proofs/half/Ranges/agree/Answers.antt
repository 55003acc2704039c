-- Two lists with no UNKNOWN range agree; others are walked.
use Rattle.model.specs.Prelude.{sym, ◌∙◌}
use Rattle.std.proofs.Common.{rules}
use Rattle.set_wellformed.proofs.Known.{known_agree}
use Rattle.set_wellformed.proofs.half.Ranges.agree.Goals as goal
use Rattle.set_wellformed.proofs.half.Ranges.agree.Goals.{then-known, else-known}

pub returns-then-known-2 : goal.returns-then-known-2
returns-then-known-2 c =
    let q = c.requires in let z = c.if-known-2.true in
    elim c.if-known.branch [
      | then-known w ↦ z ∙ sym (known_agree _ _ _ _ q.left_tiles q.right_tiles (sym c.known.ensures ∙ w.if-known.true)
          (sym w.known-then-known.ensures ∙ sym w.value-is ∙ z))
      | else-known w ↦ search rules
    ]
