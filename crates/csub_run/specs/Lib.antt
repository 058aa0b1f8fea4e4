pub mod Runners
pub mod ProgramAnswers
pub mod Showing
pub mod Ends
pub mod Texts
pub mod Plans
pub mod Insides
pub mod Tracing
