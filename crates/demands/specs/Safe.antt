-- Nothing is harmed (demand 1): flash outside the application, what a refused call leaves, and the session's rules.
pub mod Outside
pub mod Refused
pub mod Fit
