-- Laws of the loader's parts.
pub mod Laws
