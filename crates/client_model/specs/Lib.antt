pub mod State
pub mod Code
pub mod Fitness
pub mod Asks
pub mod Requests
pub mod Machine
pub mod Run
pub mod Told
