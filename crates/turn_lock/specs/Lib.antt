pub mod History
pub mod Passes
pub mod Owing
pub mod Rule
