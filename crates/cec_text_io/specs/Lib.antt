pub mod Contents
pub mod Writings
pub mod ErrorLines
pub mod NetWriting
