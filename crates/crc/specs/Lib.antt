-- What Mullirim's sum of bytes promises, and the join of two sums.
pub mod Values
pub mod Crc
pub mod Join
pub mod Eighths
