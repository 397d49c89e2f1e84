pub mod Board
pub mod Layout
