pub mod WordLaws
pub mod TopLaws
pub mod StdioLaws
pub mod ShownLaws
