-- What a DNLOAD does.
pub mod Ready
pub mod Download
