pub mod PieceLaws
pub mod NumberLaws
pub mod QuoteLaws
pub mod LineLaws
