-- What is kept over any history (demand 3). Examples: its premises can be met.
pub mod History
pub mod Named
pub mod LastFound
pub mod Examples
