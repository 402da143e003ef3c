pub mod Templates
pub mod Placing
pub mod Showing
pub mod Appending
pub mod Admitting
pub mod Keeping
