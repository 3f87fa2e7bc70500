pub mod Crosses
pub mod Counting
pub mod Crews
