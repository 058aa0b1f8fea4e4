mod Keeping
mod Lacking
mod Named
mod worked
pub mod Exports
