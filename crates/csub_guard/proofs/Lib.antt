mod PlainPrograms
mod UseLists
mod worked
pub mod Exports
