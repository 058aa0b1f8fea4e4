mod Related
pub mod SmallNets
pub mod LightNets
pub mod Exports
