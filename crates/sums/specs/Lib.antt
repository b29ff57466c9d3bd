-- What the kept sums of a flash are.
pub mod Sum
