pub mod DepthLaws
pub mod Answers
pub mod Outcomes
pub mod Accepting
mod GivenWords
mod WantedWords
mod worked
