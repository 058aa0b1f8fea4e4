-- what callers say names among others with
pub use Rattle.net_ir.specs.NameLists
pub mod Trees
pub mod Views
pub mod Tokens
pub mod Grammar
pub mod Names
pub mod Texts
pub mod Machine
pub mod Written
pub mod Parts
