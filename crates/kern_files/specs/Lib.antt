pub mod Files
pub mod Requests
pub mod Reach
pub mod Parts
