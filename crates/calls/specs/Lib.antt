pub mod Slices
pub mod Router
pub mod Calls
