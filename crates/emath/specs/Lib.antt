pub mod Answers
pub mod Limits
pub mod Plane
pub mod Root
