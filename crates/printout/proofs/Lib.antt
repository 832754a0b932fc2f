pub mod InkLaws
pub mod ListingLaws
