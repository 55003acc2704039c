-- Ranges that tile their layers (01: "tiles layer 0 to the last with nonempty ascending ranges") are isolated within as many records as
-- layers.
use Rattle.std.specs.Prelude.{◌*◌, ◌≤◌, ◌<◌}
use Rattle.model.specs.Prelude.{ℕ, arith, List, length}
use Rattle.model.specs.{RangedStates.Tiles, RangeLaws.isolate_few}
use Rattle.range_states.specs.View.{decode}
use Rattle.range_isolate.specs.Isolation.{IsolateRoom}

-- as many records as layers are enough, also between `isolate` and `coalesce`
pub isolate_room : (l : List ℕ) (n a e d w : ℕ) → 3 * w ≤ length l → 3 * n ≤ length l → Tiles 0 (decode n l) w → a < e
    → e ≤ w → IsolateRoom l n a e d
isolate_room l n a e d w size few t h k =
    let c = isolate_few (decode n l) a e d w h k t in record { fits = few; grown = omega arith }
