pub mod Groups
pub mod BlockTexts
mod worked
