-- The definitions of plan files, and laws of them.
-- Believed: numbers as bytes (Bytes), what a file says and what reading does (Plan), what a list writes (Write), the numbers of its uses
-- (Uses), with tables by computation (Samples, and in Uses)
pub mod Bytes
pub mod Plan
pub mod Write
pub mod Uses
pub mod Samples
-- the contracts of the reader's and of the writer's functions
pub mod Reading
pub mod Writing
-- what these say of the code's own values: kinds and tags; items of 16 bytes
pub mod Kinds
pub mod Items
-- what proofs/Claims says of them has these words: uses of 15 bytes; a walk from a list's front; numbers in bytes
pub mod Wide
pub mod Forward
pub mod Packing
-- laws that the code's proofs cite: bytes copied; levels and their bytes; bytes put, and the list judged; uses counted
-- and listed
pub mod Copies
pub mod Levels
pub mod WritingLaws
pub mod UsesLaws
