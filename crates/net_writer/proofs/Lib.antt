mod Joined
mod SectionParts
mod NetMachines
pub mod Exports
