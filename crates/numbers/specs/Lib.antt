-- What numbers in bytes are.
pub mod Numbers
