-- How tightly the calls are tied down. SameCall: two loaders that meet the demands leave the same of one call.
pub mod Desk
pub mod OneOutcome
pub mod Impostors
pub mod SameCall
pub mod Determine
