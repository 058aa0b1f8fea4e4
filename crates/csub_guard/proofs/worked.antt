-- Worked examples of the definitions: values by hand, or by an independent implementation. No law depends on them.
mod WorkedTexts
mod WorkedPrograms
mod DrawnPrograms
mod MoreDrawnPrograms
mod WorkedMeanings
