-- `merge_given`: where both are Single, their states are merged as those of a use of all of the texture.
use Rattle.model.specs.Prelude.{refl, None}
use Rattle.set_storage.specs.{Storage.numbers_of, Stored.word_of}
use Rattle.texture_merge.specs.Uses.{UseReady, HeldReady}
use Rattle.texture_merge.proofs.{SetCases.merge_single_lem, UseCases.single_merged}
use Rattle.texture_merge.proofs.from_set.merge_given.Goals as goal

pub returns-then-cur-p : goal.returns-then-cur-p
returns-then-cur-p c =
    let a = c.args in let q = c.requires.set_ready in let m = c.requires.merge_ready in
    let k = rw c.word-word.ensures at c.if-word-p.true in
    let taken : UseReady (numbers_of a.table.now) a.half a.table.now a.ranges.now a.given.i a.extent None a.p (word_of a.given) =
    record { texture = q.texture; within = tt; flags = q.flags; plain = k } in
    let held : HeldReady a.half a.table.now a.ranges.now a.given.i a.extent (word_of a.given) =
    record { tiled = m.tiled; plain = m.plain k } in
    merge_single_lem q k (single_merged taken held _ refl c.if-cur-p.true (rw c.word-word.ensures at c.merge_single_use.ensures))
