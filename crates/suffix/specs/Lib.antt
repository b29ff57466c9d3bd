-- What a DFU file's suffix is, and what reading and writing one come to.
pub mod Suffix
pub mod Claims
