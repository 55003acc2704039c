-- What is proved of the definitions of plan files.
-- what holds of them
pub mod Claims
-- its proofs: the round trips over the definitions; the two calls together; refusals, lengths and rooms (of a list from its front, and of
-- numbers and bytes of a use: specs/Forward, specs/Packing)
pub mod RoundTrips
pub mod Together
pub mod Measures
-- laws by which the code is the definition: fields, runs and items; the reader's functions; the answers of `read`; the file laid out; the
-- answers of `write`
pub mod ReadingLaws
pub mod Readers
pub mod ReadAnswers
pub mod Laying
pub mod WriteAnswers
