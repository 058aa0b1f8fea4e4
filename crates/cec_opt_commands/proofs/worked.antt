-- Worked examples of the definitions: values by hand. No law depends on them.
mod WorkedLines
mod WorkedRelations
mod WorkedResets
