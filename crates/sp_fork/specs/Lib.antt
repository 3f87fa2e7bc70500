pub mod Jar
pub mod Run
pub mod Code
