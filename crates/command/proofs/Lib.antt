-- Laws of a ready session.
pub mod Laws
