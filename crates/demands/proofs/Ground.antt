-- What the proofs share: when a call is prepared, the ways through a call, what each leaves, flash byte by byte, where it isn't erased,
-- the examples' board.
pub mod Prepared
pub mod Served
pub mod Finished
pub mod Ways
pub mod Bytes
pub mod Unerased
pub mod SmallBoard
