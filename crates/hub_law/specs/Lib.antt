pub mod Frames
pub mod Serves
