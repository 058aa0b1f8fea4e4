mod Rows
mod Images
mod Tests
mod ExprLaws
mod Makers
mod LexLaws
pub mod Saying
pub mod Spelling
mod Operators
pub mod Naming
mod Instants
mod Places
mod MeantTexts
mod Again
mod worked
pub mod Exports
