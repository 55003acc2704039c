-- `use_field` puts the head before the bytes of a use.
use Rattle.std.proofs.Common.{arith, ap, ◌∙◌, ℕ, List, ◌∷◌, drop, append-nil, take_all, length-drop}
use Rattle.plan_file.proofs.writer.use_field.Goals as goal

pub returns : goal.returns
returns c =
    let bytes = take_all 15 (drop 1 c.args.item.now) (omega (arith, c.told-item, length-drop 1 c.args.item.now)) in
    rw (c.copy_from_slice.ensures.after, c.head.ensures, c.copy_from_slice-2.ensures.after)
    (ap (λ (x : List ℕ). 2 ∷ 15 ∷ 0 ∷ x) (append-nil _ ∙ bytes))
