pub mod PutLaws
pub mod ListedLaws
pub mod CountLaws
pub mod ShowLaws
pub mod ChangeLaws
