pub mod Sides
pub mod Runs
pub mod Turns
pub mod Laws
