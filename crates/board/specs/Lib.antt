-- What a board that is written in C hears.
pub mod Board
