pub mod Cutting
pub mod Faults
pub mod Outcome
pub mod Parts
pub mod Promises
pub mod Runs
pub mod Spans
