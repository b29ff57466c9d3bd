-- Laws and theorems of the suffix.
pub mod Laws
pub mod Ends
pub mod Theorems
pub mod Examples
