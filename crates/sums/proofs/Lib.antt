-- Laws of the kept sums.
pub mod Among
pub mod Renewed
pub mod Joined
pub mod Laws
