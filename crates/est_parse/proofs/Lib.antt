mod ExprLaws
mod Forms
mod Having
mod Lists
mod ModuleLaws
mod Places
mod SpellableTrees
mod SpelledPrograms
mod SpelledTrees
mod StmtLaws
mod TokenKinds
mod worked
pub mod Exports
