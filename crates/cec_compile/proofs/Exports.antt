-- What other crates use of these proofs.
pub use Rattle.cec_compile.proofs.GraphFacts.{wire_count}
pub use Rattle.cec_compile.proofs.Keeping.{c_text_keeps, text_keeps, verilog_text_keeps, widths}
pub use Rattle.cec_compile.proofs.NetTexts.{IsBlifText, IsCText, IsVerilogText, blif_answers, c_answers, encoded_answers, made_keeps, made_source}
pub use Rattle.cec_compile.proofs.NetTexts.{verilog_answers}
pub use Rattle.cec_compile.proofs.Joined.{given-few, graph_compiles, inputs_wide, own_built, own_graph, own_source}
