-- What a session is, the rules that a fit one keeps, and the fresh one.
pub mod Codes
pub mod Session
pub mod Rules
pub mod Fit
