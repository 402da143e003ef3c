pub mod Gates
pub mod Signals
pub mod Refusals
pub mod Simulation
