-- What the host hears: the laws.
pub mod Laws
