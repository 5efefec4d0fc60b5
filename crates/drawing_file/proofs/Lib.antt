pub mod Fronts
pub mod Leavings
pub mod Lists
pub mod Parts
pub mod Placing
pub mod Strokes
pub mod Turns
