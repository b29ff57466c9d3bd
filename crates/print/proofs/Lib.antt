-- The laws of digits, and what is promised of them.
pub mod Laws
pub mod Text
pub mod Theorems
pub mod Examples
