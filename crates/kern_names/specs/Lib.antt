pub mod Listing
pub mod Tree
pub mod Edges
pub mod Shown
pub mod Changes
pub mod Requests
pub mod Reach
