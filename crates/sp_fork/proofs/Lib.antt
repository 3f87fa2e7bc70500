pub mod Jars
pub mod Firsts
pub mod Cancelled
pub mod Unmade
