pub mod Rings
pub mod Kinds
pub mod Listed
pub mod LedgerLends
pub mod Queues
pub mod SocketNumbers
pub mod Keeps
pub mod Names
