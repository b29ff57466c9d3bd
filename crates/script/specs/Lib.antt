-- What a script says, and what the play of it shows.
pub mod Tape
pub mod Turn
