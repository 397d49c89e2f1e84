pub mod LineLaws
pub mod RowLaws
pub mod Told
pub mod Bounds
pub mod Example
