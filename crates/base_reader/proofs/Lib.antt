mod Next
mod Laws
mod Sets
mod Proper
mod Runs
mod Nesting
mod Parts
mod Loops
mod Totals
mod Readers
mod Steps
mod Whole
mod Choices
mod StatementLaws
mod StatementRows
mod Depths
mod worked
pub mod Exports
