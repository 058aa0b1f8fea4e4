mod Appends
mod Finding
mod Lexing
mod Spelling
mod Frames
mod NetNames
mod NetFrames
mod NetCalls
mod NetSound
mod Joins
mod NetMeans
mod worked
pub mod Exports
