-- `log_move` hands on the one entry of a transition that is made, and none of one that is not.
use Rattle.model.specs.Prelude.{sym, ◌∙◌}
use Rattle.texture_barrier.specs.Steps.{entry_yes}
use Rattle.texture_barrier.proofs.transition.Task.log_move.Goals as goal

pub put-requires : goal.put-requires
put-requires g c =
    let a = c.args in
    rw (entry_yes a.selector a.self.unknown a.self.mask a.old a.new (sym c.moves.ensures ∙ c.if-moves.true)) at c.requires

pub returns-then-moves : goal.returns-then-moves
returns-then-moves g c =
    let a = c.args in
    rw (entry_yes a.selector a.self.unknown a.self.mask a.old a.new (sym c.moves.ensures ∙ c.if-moves.true)) c.put.ensures
