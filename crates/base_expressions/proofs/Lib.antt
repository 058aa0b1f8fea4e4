mod Shrinks
pub mod Judgements
mod Grammars
pub mod Exports
