-- What a host that is written in C or Rust hears of files.
pub mod Files
