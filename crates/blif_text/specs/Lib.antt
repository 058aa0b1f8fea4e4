-- what callers say names among others with
pub use Rattle.net_ir.specs.NameLists
pub mod Lines
pub mod Statements
pub mod Circuits
pub mod Spelled
pub mod Runs
pub mod OutputNames
pub mod Written
pub mod Plain
pub mod Parts
