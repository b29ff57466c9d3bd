-- What numbers look like in print.
pub mod Hex
pub mod Decimal
pub mod Claims
