pub mod Room
pub mod Calls
pub mod Kernel
pub mod Handing
pub mod At
pub mod Outs
pub mod Work
pub mod AtOnce
