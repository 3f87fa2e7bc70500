pub mod Names
pub mod Views
pub mod Turns
pub mod Splitting
pub mod Joining
pub mod Chain
pub mod Crosses
pub mod Owing
