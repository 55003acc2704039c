-- `set_from`: 5, then 6 to 9 in the table's order, and then the change.
use Rattle.model.specs.{Errors.passed_on, Prelude.{refl}}
use Rattle.texture_track.specs.Tracked.{away_short}
use Rattle.call_join.proofs.Joined.{joins, joined_few, from_done, from_away}
use Rattle.call_join.proofs.calls.set_from.Goals as goal

pub returns-in_err-check_head : goal.returns-in_err-check_head
returns-in_err-check_head c =
    let short = c.in_err-check_head.ensures.fits in rw (passed_on c.from_residual.ensures.1, short.0) (away_short refl short.1)

pub set_checked-requires : goal.set_checked-requires
set_checked-requires c =
    let p = c.requires in let z = c.in_ok-check_set.ensures in
    record {
      joins = joins p.tracker_tested p.given_tested z;
      first_len_bound = joined_few p.tracker_tested p.given_tested z p.last_len_bound;
      head_value = c.in_ok-check_head.ensures.fits;
    }

pub returns : goal.returns
returns c =
    let p = c.requires in
    from_done p.tracker_tested p.given_tested c.in_ok-check_head.ensures.fits c.in_ok-check_set.ensures c.set_checked.ensures

pub returns-in_err-check_set : goal.returns-in_err-check_set
returns-in_err-check_set c =
    let p = c.requires in
    rw (passed_on c.from_residual-in_err-check_set.ensures.1)
    (from_away p.tracker_tested p.given_tested c.in_ok-check_head.ensures.fits c.in_err-check_set.ensures)
