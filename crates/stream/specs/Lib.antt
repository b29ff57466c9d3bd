-- What an upload reads.
pub mod Stream
