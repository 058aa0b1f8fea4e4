pub mod Exports
mod CauseLaws
