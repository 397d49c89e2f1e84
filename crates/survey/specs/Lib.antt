pub mod Check
pub mod Met
pub mod Find
pub mod Copy
pub mod Secrecy
