-- Worked examples of the definitions: values by hand, or by an independent implementation. No law depends on them.
mod PlainWords
mod WorkedTexts
mod WorkedFaults
mod TextEquations
mod RandomEquations1
mod RandomEquations2
mod RandomEquations3
mod RandomEquations4
mod RandomEquations5
mod RandomEquations6
mod RandomEquations7
mod RandomEquations8
mod FixedEquations1
mod FixedEquations2
mod FixedEquations3
