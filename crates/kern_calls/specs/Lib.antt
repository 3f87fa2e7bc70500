pub mod Kernel
pub mod Joined
pub mod Reached
pub mod Opened
pub mod Renames
