-- What other crates use of these proofs.
pub use Rattle.est_ast.proofs.Fronts.{IsOther, bad_front, big_front, block_front, front_fits, ident_front, line_front, mark_front, number_front}
pub use Rattle.est_ast.proofs.Fronts.{reserved_front, space_front}
pub use Rattle.est_ast.proofs.OneLexing.{at_most_one}
pub use Rattle.est_ast.proofs.OneToken.{mark_of, mark_of-head, read-spelling, read_word}
pub use Rattle.est_ast.proofs.Rows.{expr-And, expr-Or, form-AbortCase, form-AwaitCase, form-Par, form-PresentCase, form-Seq, rows}
pub use Rattle.est_ast.proofs.FlatRows.{flat_expr-And, flat_expr-Or, flat_form-AbortCase, flat_form-AwaitCase, flat_form-Par, flat_form-PresentCase}
pub use Rattle.est_ast.proofs.FlatRows.{flat_form-Seq}
