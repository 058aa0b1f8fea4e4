-- Worked examples of the definitions: values by hand. No law depends on them.
mod WorkedRelations
