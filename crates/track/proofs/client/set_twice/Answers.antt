-- `set_twice`: its calls are a trace, so its second call shares with the grid's run what demand 3 lists.
use Rattle.track.proofs.ClientLaws.{client_shares}
use Rattle.track.proofs.client.set_twice.Goals as goal

pub returns : goal.returns
returns c =
    let pre = c.requires in
    let first = c.unwrap_or-head.ensures in
    let told = c.unwrap_or-told.ensures in
    let one = rw first at c.set_single-one.ensures in
    let emptied = rw (told, first) at c.empty_log-emptied.ensures in
    let answered = rw (c.unwrap_or-head-2.ensures, told, first) at c.set_single-answered.ensures in
    rw (told, first) (client_shares c.open_tracker.ensures pre.in_bounds.0 pre.in_bounds.1 _ pre.in_bounds_2 _ _ _ _ _
    c.word.ensures.1 c.word-2.ensures.1 c.empty_log.ensures one emptied answered)
