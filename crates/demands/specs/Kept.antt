-- What is kept over any history (demand 3): right sums, every byte that no command named, and what the last search found.
pub mod History
pub mod Named
pub mod LastFound
