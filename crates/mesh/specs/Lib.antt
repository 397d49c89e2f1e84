pub mod Axis
pub mod Grid
pub mod Rule
pub mod Published
pub mod Mesh
