-- What the list of a bundle's images looks like.
pub mod Listing
pub mod Claims
