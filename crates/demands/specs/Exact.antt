-- How tightly the calls are tied down: examples to the byte, no second outcome, impostors, and that the demands leave no choice.
pub mod Desk
pub mod OneOutcome
pub mod Impostors
pub mod Determine
