pub mod ListsLaws
pub mod AgreeLaws
pub mod FilesLaws
pub mod WalkLaws
pub mod RenameLaws
pub mod FreshLaws
pub mod GrowthLaws
