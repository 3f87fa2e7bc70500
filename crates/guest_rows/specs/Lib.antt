pub mod Fields
pub mod Answered
pub mod Added
pub mod Rows
