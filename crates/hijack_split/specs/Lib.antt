pub mod View
pub mod Calls
pub mod Steps
pub mod NewDescriptors
pub mod Dup2
pub mod Split
pub mod Text
pub mod Laws
