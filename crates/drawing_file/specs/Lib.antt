pub mod Faults
pub mod Format
pub mod Laws
pub mod Listing
pub mod Replaced
pub mod Runs
pub mod Solids
pub mod Values
