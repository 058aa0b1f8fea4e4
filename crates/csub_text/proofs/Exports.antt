-- What other crates use of these proofs.
pub use Rattle.csub_text.proofs.Lexing.{IsVariable, Says, bit_kind, fronts-names}
pub use Rattle.csub_text.proofs.Spelling.{IsFramed, IsPlain, assign_kinds, declaration_kinds, expr_kinds, framed_kinds, head_kinds, last_kinds, meant-body}
pub use Rattle.csub_text.proofs.Spelling.{nesting-body, says-assign, says-framed, spells-assign, spells-framed, state_kinds, written_assign}
pub use Rattle.csub_text.proofs.NetNames.{differ-inputs, differ-nexts, given_variables, input_names, marks-inputs, marks-locals, marks-nexts, marks-shown}
pub use Rattle.csub_text.proofs.NetNames.{next_names, shown_variables}
pub use Rattle.csub_text.proofs.NetRules.{EachAssign, Fits, all_declared, assigns-fit, declared-local, declared-net, declared_once, each-assign, local-answer}
pub use Rattle.csub_text.proofs.NetRules.{local-gate, net_name-gate, net_name-input, net_name-state, numbered-assigns}
pub use Rattle.csub_text.proofs.NetSets.{no_local-given, no_local-state}
pub use Rattle.csub_text.proofs.NetCalls.{Keeps, Serves, Shows, before_gates, behind-shows, behind_gates, gate-new, inputs-run, run-append}
pub use Rattle.csub_text.proofs.NetMeans.{IsReadable, assigns-readable, begins-kept, framed-net, inputs-net, kept-next, net-variable, outputs-net, seen-net}
