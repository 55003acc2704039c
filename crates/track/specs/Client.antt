-- What the client in code (src/client.rt) shows: its second call, as a step of a trace, shares with the grid's run what demand 3 lists.
use Rattle.model.specs.Prelude.{ℕ, Option, List, []}
use Rattle.model.specs.declared.{Extent.Extent, Selector.Selector, TrackerIndex.TrackerIndex, UsageFlags.UsageFlags}
use Rattle.model.specs.{Calls.{CallResult, Call, call_set_single, Sets, step, newly}, Log.Answered, Sets.Opening}
use Rattle.model.specs.StateRules.{Move}
use Rattle.std.specs.Prelude.{◌∷◌}
use Rattle.agreement.specs.Grid.{SubresourceConflict, grid}
use Rattle.call_open.specs.Open.{asked}
use Rattle.track.specs.Trace.{Step}

-- 01's bench samples: their flags, and a tracker of 1 texture, 2 mips and 4 layers
abbrev pub client_flags : UsageFlags
client_flags = record { exclusive = 20; uninitialized = 1; complex = 4096; unknown = 8192 }

abbrev pub client_asked : ℕ → Opening
client_asked room = asked 1 2 4 client_flags 10 room

-- the grid's run of the two calls, from such a tracker newly opened
abbrev pub client_run : ℕ → TrackerIndex → Extent → Selector → ℕ → ℕ
    → CallResult SubresourceConflict (List (List (Option Move))) (Sets grid)
client_run room i sh sel a b =
    let k = (step grid (call_set_single 0 i sh sel a) (newly grid [] (client_asked room ∷ []))).after in
    step grid (call_set_single 0 i sh sel b) k

-- the second call as a step: what emptying and the call answered, and what is lent as the call left it; `SharedAt` looks at no more of it
abbrev pub client_step : Call → Answered → Answered → List ℕ → List ℕ → List ℕ → List ℕ → Step
client_step c emptied answered t s e l = record {
  call = c;
  log = l;
  told = emptied.head;
  emptied = emptied;
  answered = answered;
  sets = record { scopes = []; trackers = record { table = t; starts = s; ends = e } ∷ [] };
  logged = l;
}
