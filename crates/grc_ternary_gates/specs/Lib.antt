pub mod Systems
pub mod Linking
pub mod Solving
pub mod Tables
