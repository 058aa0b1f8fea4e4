pub mod Machines
pub mod Becoming
pub mod Running
pub mod Steps
pub mod Languages
pub mod Pauses
pub mod Ends
pub mod Laws
