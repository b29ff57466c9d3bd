-- Laws of flash: of spliced and erased bytes, of a write in progress, and of the search.
pub mod Laws
pub mod Reaching
pub mod Writing
pub mod Unerased
