-- `isolate` is its three parts, one after the other.
use Rattle.range_isolate.proofs.{Isolating.{isolates, start_fits, cover_fits}}
use Rattle.range_isolate.proofs.isolation.isolate.Goals as goal

pub cut_start-g-requires-clause-s_in_bounds : goal.cut_start-g-requires-clause-s_in_bounds
cut_start-g-requires-clause-s_in_bounds c = start_fits c.requires c.first_past-pos.ensures

pub cover-p-requires-clause-cover_room : goal.cover-p-requires-clause-cover_room
cover-p-requires-clause-cover_room c = cover_fits c.requires c.first_past-pos.ensures c.cut_start-g.ensures

pub returns : goal.returns
returns c = search isolates
