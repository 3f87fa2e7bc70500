pub mod Names
pub mod Gathered
pub mod Forms
pub mod Entries
