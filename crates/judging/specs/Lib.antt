pub mod Named
pub mod Moves
pub mod Takings
pub mod Verdicts
