-- What is asked for is done (demand 2): starts, requests, commands, streams, and a range that is read out and sent back.
pub mod Starts
pub mod Rows
pub mod Commands
pub mod Covered
pub mod Streams
pub mod ReadBack
