-- What a call leaves, and how a session goes on to another state.
pub mod Answers
pub mod Moves
