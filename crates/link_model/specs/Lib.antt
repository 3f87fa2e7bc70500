pub mod Direct
pub mod Link
pub mod Asked
pub mod Greeting
pub mod Route
pub mod Going
