-- `merge_piece` is a merge of the run that `isolate` makes.
use Rattle.texture_mips.proofs.{Walking.{piece_met, piece_done}}
use Rattle.texture_mips.proofs.uniting.merge_piece.Goals as goal

pub returns-then-k-i : goal.returns-then-k-i
returns-then-k-i c =
    piece_met _ _ _ _ c.isolate-i.ensures c.merge_run-k.ensures c.if-k-i.true c.get.ensures

pub returns : goal.returns
returns c =
    piece_done _ _ _ _ c.isolate-i.ensures c.merge_run-k.ensures c.if-k-i.false
    c.coalesce.ensures
