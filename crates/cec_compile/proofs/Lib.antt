mod GraphFacts
mod SharedLaws
mod GraphsRead
mod Keeping
mod NetTexts
mod WalkRuns
mod WireWords
mod Simplified
mod Joined
mod EncodedNets
mod GuardedTexts
mod worked
pub mod Exports
