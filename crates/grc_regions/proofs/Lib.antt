pub mod HeadReads
pub mod LiveHeads
pub mod RegionReads
pub mod OwnHeads
mod worked
