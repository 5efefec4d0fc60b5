pub mod Grown
pub mod Promise
pub mod Rims
