pub mod Output
pub mod Outward
