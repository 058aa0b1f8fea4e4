mod TreePlaces
mod TreeFolds
pub mod CodeValues
pub mod NumberCodes
pub mod Extents
pub mod CodeCases
pub mod CodeLaws
pub mod GateLaws
pub mod Copies
pub mod CodedRuns
pub mod CodedInstants
pub mod Drawing
pub mod CodedNets
pub mod ShapeLaws
pub mod PlanLaws
pub mod TreeWeights
pub mod Encoded
mod worked
