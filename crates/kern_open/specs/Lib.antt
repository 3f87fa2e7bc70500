pub mod OpenTables
pub mod Counted
