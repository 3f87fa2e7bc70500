pub mod Places
pub mod Rising
pub mod Changes
pub mod Pieces
pub mod Apart
pub mod Deliveries
