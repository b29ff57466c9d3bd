-- Laws and theorems of the bundle.
pub mod Walk
pub mod Laws
pub mod Meaning
pub mod Totals
pub mod Entries
pub mod Made
pub mod Writes
pub mod Theorems
pub mod Examples
