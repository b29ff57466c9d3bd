-- What a bundle is, and what reading and writing one come to.
pub mod Bundle
pub mod Claims
