pub mod State
pub mod Host
pub mod Still
pub mod Machine
pub mod Run
pub mod Log
pub mod Once
pub mod After
