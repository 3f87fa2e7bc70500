pub mod Channel
pub mod Rulings
pub mod Socket
pub mod SocketRulings
pub mod Does
pub mod Calls
pub mod Sound
