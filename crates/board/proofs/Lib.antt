pub mod Sizes
pub mod Places
pub mod BoardLaws
