-- `learn_update`: the isolated run is read by the start, then takes the state, and the end is coalesced.
use Rattle.texture_update.proofs.Pairs.{run_room, pair_is}
use Rattle.texture_update.proofs.pair.learn_update.Goals as goal

pub learn-n-requires-clause-learn_room : goal.learn-n-requires-clause-learn_room
learn-n-requires-clause-learn_room c = run_room c.isolate-at.ensures _ c.requires.learn_room

pub returns : goal.returns
returns c =
    pair_is c.isolate-at.ensures c.args.new c.args.slen c.learn-n.ensures c.set_run.ensures c.coalesce-k.ensures
