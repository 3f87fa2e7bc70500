pub mod Offsets
pub mod Items
pub mod Families
pub mod Faults
pub mod Rules
pub mod Sides
