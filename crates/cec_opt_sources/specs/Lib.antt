pub mod SmallTexts
pub mod LightNets
