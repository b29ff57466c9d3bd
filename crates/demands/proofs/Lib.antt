-- What the user is promised: the proofs. Theorems has those that a reader should know.
pub mod Theorems
pub mod Demands
pub mod Safe
pub mod Does
pub mod Kept
pub mod Exact
pub mod Ground
