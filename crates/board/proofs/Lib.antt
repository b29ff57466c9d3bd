-- That nothing is lost between the loader and a board.
pub mod Laws
