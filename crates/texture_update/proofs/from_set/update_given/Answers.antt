-- `update_given`: where the given texture and the end are Single, the end takes the state.
use Rattle.texture_update.specs.FromSet.{from_use_lem}
use Rattle.texture_update.proofs.{Cases.all_single, SetCases.state_given}
use Rattle.texture_update.proofs.from_set.update_given.Goals as goal

pub returns-then-table-given : goal.returns-then-table-given
returns-then-table-given c =
    let k = rw c.word-word.ensures at c.if-word-p.true in
    rw (c.set_state.ensures, c.word-word.ensures)
    (state_given c.requires k (all_single (from_use_lem c.requires _ k) c.if-table-given.true))
