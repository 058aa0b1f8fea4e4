pub mod HeadLists
pub mod Regions
