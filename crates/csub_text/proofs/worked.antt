-- Worked examples of the definitions: values by hand, or by an independent implementation. No law depends on them.
mod TextEquations
mod WorkedNames
mod WorkedKinds
mod WorkedTexts
