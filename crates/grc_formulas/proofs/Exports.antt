-- What other crates use of these proofs.
pub use Rattle.grc_formulas.proofs.RowValues.{length-row_values, row_values-append, rows-met, source_value-same, value-stays}
