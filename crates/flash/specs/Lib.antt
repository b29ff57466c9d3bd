-- What Mullirim's flash crate promises.
pub mod Flash
