mod TextLaws
mod Makers
mod PieceSteps
mod ReaderLaws
mod ReadBack
mod PutPlaces
mod TokenWords
mod UseLaws
mod Misplacing
mod worked
pub mod Exports
