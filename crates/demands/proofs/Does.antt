-- What is asked for is done (demand 2). Forms, Outcomes and Downloads serve the rows; Examples: its premises can be met.
pub mod Forms
pub mod Outcomes
pub mod Downloads
pub mod Starts
pub mod Rows
pub mod Commands
pub mod Works
pub mod Covered
pub mod EveryRow
pub mod Streams
pub mod ReadBack
pub mod Examples
