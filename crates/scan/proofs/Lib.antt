pub mod Products
pub mod Outputs
pub mod Running
