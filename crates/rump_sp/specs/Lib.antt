pub mod Words
pub mod Failure
pub mod Top
pub mod Stdio
