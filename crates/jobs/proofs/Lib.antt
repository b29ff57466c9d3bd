-- What a call does to flash: the laws.
pub mod Picks
pub mod Laws
