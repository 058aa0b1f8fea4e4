mod SourceTexts
mod CircuitTexts
