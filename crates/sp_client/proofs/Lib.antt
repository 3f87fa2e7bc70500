pub mod AskedLaws
pub mod Events
pub mod Fit
pub mod Values
pub mod Needs
