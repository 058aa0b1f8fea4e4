-- What other crates use of these proofs.
pub use Rattle.net_ir.proofs.Building.{ReadsLower-push, all_differ-append, all_differ-push, carried-push, carried-silent}
pub use Rattle.net_ir.proofs.Values.{ReadsLower-rest, Solves-gate_values, gate_values-append, gate_values-from_Solves, length-gate_values, op_value-same}
pub use Rattle.net_ir.proofs.Values.{take-gate_values, value_in-gate_values}
pub use Rattle.net_ir.proofs.Numbered.{All-numbered, get_or-numbered, length-numbered, list_all-flat_map, list_all-from_All, list_all-get_or, list_all-parts}
pub use Rattle.net_ir.proofs.Numbered.{list_any-left, list_any-right, map-numbered, numbered-map}
pub use Rattle.net_ir.proofs.NumberedNames.{Apart, TellsGates, apart-by, apart-left, apart-right, differ, differ-by, differ-decimal, gates-differ}
pub use Rattle.net_ir.proofs.NumberedNames.{joined-differ, numbered-differ}
pub use Rattle.net_ir.proofs.NameLists.{SameNames, again-here, any-none, differ-at, find-same, found-at, found-low, is_among-filter, is_among-more, keys-next}
pub use Rattle.net_ir.proofs.NameLists.{looked_up, map-looked_up, members-next, new-at, none_shared-front, none_shared-nil, once-differ, once-next}
pub use Rattle.net_ir.proofs.NameLists.{place-among, position-none, position-some}
pub use Rattle.net_ir.proofs.Pieces.{piece-back, piece-front, piece-none, piece-some, pieces-join}
pub use Rattle.net_ir.proofs.Nets.{any_gate, gate_part, length-gate_part, length-next, net_cases, numbered-at, output_part, told-values, told_from}
