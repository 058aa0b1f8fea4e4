mod Sets
mod PotentialLaws
mod StepLaws
mod CodeLaws
mod ReactionLaws
mod ExitLaws
pub mod RunLaws
mod MachineRuns
mod PreorderLaws
mod ResidualLaws
mod Statuses
mod worked
pub mod Exports
