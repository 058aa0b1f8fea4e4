pub mod Languages
pub mod Readings
pub mod Exact
pub mod Found
pub mod Choice
pub mod StatementGrammar
pub mod StatementReading
