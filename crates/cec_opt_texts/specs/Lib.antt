pub mod Alike
pub mod Faults
pub mod Optimized
pub mod Related
