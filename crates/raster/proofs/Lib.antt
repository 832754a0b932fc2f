pub mod Confinement
pub mod FillLaws
pub mod JoinLaws
pub mod LineLaws
pub mod PaintLaws
