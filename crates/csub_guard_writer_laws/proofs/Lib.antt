mod RestingNets
mod GuardedTexts
mod worked
pub mod Exports
