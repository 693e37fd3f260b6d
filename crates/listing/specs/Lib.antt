pub mod Listing
pub mod Marks
