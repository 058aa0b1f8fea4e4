-- Worked examples of the definitions: values by hand, or by an independent implementation. No law depends on them.
mod WorkedRuns
mod WorkedTexts
