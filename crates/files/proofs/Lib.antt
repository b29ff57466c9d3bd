-- Laws of what a host hears of files.
pub mod Laws
pub mod Bundles
