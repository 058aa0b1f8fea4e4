mod Apart
mod SourceTexts
mod CircuitTexts
