-- Worked examples of the definitions: values by hand, or by an independent implementation. No law depends on them.
mod Spelled
mod SpelledItems1
mod SpelledItems2
mod SpelledPrograms
mod WorkedNestings
mod WorkedTokens
mod WorkedLexemes
mod WorkedGrammar
mod WorkedTrees
