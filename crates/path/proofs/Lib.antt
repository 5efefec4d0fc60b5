pub mod Arcs
pub mod Circling
pub mod Corners
pub mod Extending
pub mod Growing
pub mod Loops
pub mod Turning
