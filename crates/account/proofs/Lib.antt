pub mod Rows
pub mod Spelling
pub mod Answering
pub mod Standing
pub mod Tying
pub mod Laying
pub mod Digits
pub mod Measuring
