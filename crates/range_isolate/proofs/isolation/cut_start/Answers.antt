-- `cut_start` leaves the record or makes two of it.
use Rattle.std.specs.Prelude.{◌*◌, ◌+◌, ◌≤◌}
use Rattle.model.specs.Prelude.{arith, length}
use Rattle.range_isolate.proofs.{Isolating.{start_end, start_uncut, start_cut, start_room_lem}}
use Rattle.range_isolate.proofs.isolation.cut_start.Goals as goal

pub returns-then-pos-len : goal.returns-then-pos-len
returns-then-pos-len c = search start_end

pub returns-then-x-r : goal.returns-then-x-r
returns-then-x-r c = search start_uncut

pub insert_record-requires-clause-len_in_bounds : goal.insert_record-requires-clause-len_in_bounds
insert_record-requires-clause-len_in_bounds c =
    let n : 3 * (c.args.len + 1) ≤ length c.args.s.now =
    start_room_lem _ _ _ _ c.get-r.result c.requires.s_in_bounds c.requires.pos_le_len c.if-pos-len.false c.get-r.ensures
    c.if-x-r.false in omega (arith, c.put.ensures.long)

pub returns : goal.returns
returns c = search start_cut
