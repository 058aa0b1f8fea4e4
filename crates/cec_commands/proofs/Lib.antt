pub mod Pieces
pub mod Listings
pub mod OneFile
pub mod TwoFiles
pub mod RunLines
pub mod DrawnRuns
pub mod AskedRequests
pub mod Unrefused
pub mod Accepting
pub mod Stopping
pub mod ReactionFiles
pub mod RunnerReactions
pub mod TraceEnds
pub mod TextSizes
pub mod GuardedMeans
pub mod FormLanguages
mod worked
