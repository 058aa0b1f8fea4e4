mod Machines
mod BareNames
mod Showing
mod NetTexts
mod TextFaults
mod worked
pub mod Exports
