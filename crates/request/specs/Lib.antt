-- What the host asks: what the eight setup bytes say and in which states it is allowed, and the numbers of the commands.
pub mod Request
pub mod Commands
