pub mod Waiting
pub mod Serving
pub mod Stdio
pub mod Session
