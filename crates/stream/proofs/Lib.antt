-- Laws of the streams, and of an answer in progress.
pub mod Giving
pub mod Laws
