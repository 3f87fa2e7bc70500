pub mod Code
pub mod Ends
pub mod Happens
pub mod Hosting
pub mod Steps
pub mod Told
