-- What a call does to flash.
pub mod Job
