-- What the passes over range records compute, over lists alone.
--     Pieces     the model's `isolate` as pieces, from the first to the last
--     Survey     what the first pass counts
--     Cutting    the pass from the last record to the first is `isolate`
--     Joining    the joining pass is `coalesce`
--     Clipping   the clipping pass is `iter_filter`
--     Together   the passes together are the model's calls
--     Loops      one turn of each loop
pub mod Pieces
pub mod Survey
pub mod Cutting
pub mod Joining
pub mod Clipping
pub mod Together
pub mod Loops
