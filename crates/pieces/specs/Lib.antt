-- What it means to lay bytes into a buffer, and what the claims about file formats share.
pub mod Pieces
pub mod Claims
