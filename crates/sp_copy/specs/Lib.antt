pub mod Parts
pub mod Faults
pub mod Reading
pub mod Writing
pub mod Gathering
pub mod Delivering
