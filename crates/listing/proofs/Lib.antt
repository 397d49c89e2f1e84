pub mod Bounds
pub mod OutputLaws
pub mod OutwardLaws
pub mod Determined
pub mod Secrecy
pub mod Example
