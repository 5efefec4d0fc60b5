pub mod Colors
pub mod Rules
pub mod Textures
pub mod Vertices
