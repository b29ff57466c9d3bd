-- The laws of laying, of lists of bytes, and of tests.
pub mod Laws
pub mod Lists
pub mod Tests
