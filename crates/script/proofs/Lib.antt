-- Laws of a script's records, of the count of its calls, and of the sum of the kept sums.
pub mod Records
pub mod Counting
pub mod Sums
