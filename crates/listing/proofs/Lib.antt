-- The laws of the list's lines.
pub mod Laws
pub mod Theorems
pub mod Examples
