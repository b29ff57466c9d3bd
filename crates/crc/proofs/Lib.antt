pub mod Values
pub mod Folds
pub mod Bits
pub mod Laws
pub mod Joins
pub mod Columns
pub mod Tables
pub mod Streams
