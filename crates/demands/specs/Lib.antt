-- What the user is promised: the statements. A loader is any start and step, and Demands is all that is demanded of one.
pub mod Calls
pub mod Asked
pub mod Commanded
pub mod Safe
pub mod Does
pub mod Kept
pub mod Exact
pub mod Demands
