-- What the loader answers to each request, and what it leaves.
pub mod Reply
pub mod Upload
pub mod Step
