-- Nothing is harmed (demand 1). Examples: its premises can be met.
pub mod Outside
pub mod Refused
pub mod Fit
pub mod Examples
