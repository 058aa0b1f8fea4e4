-- What other crates use of these proofs.
pub use Rattle.vlog_text.proofs.NetNames.{input_words, output_words, names-append}
pub use Rattle.vlog_text.proofs.NetRules.{net_name-gate, targets-are}
pub use Rattle.vlog_text.proofs.NetModules.{net_module}
pub use Rattle.vlog_text.proofs.NetInstants.{first_names, length-names, net_name-at, net_names, Holds, Holds-from_instant}
pub use Rattle.vlog_text.proofs.NetRuns.{all_driven, names-differ, instant_exists, next_latches-module, shown-module}
pub use Rattle.vlog_text.proofs.NetRuns.{initial-module}
pub use Rattle.vlog_text.proofs.NetSpelled.{describes-net}
