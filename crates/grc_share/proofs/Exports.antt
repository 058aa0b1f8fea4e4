-- What other crates use of these proofs.
pub use Rattle.grc_share.proofs.LoopNumbers.{OwnKeys, above-self, at-first, at-only, at-second, at-self, body_own_keys}
pub use Rattle.grc_share.proofs.RowsLive.{Gives, gives-here, live_row, program_gives}
pub use Rattle.grc_share.proofs.RootKeys.{KeysRise, body_keys_rise}
pub use Rattle.grc_share.proofs.SharedNames.{first_key, first_same, one_instance-named}
pub use Rattle.grc_share.proofs.FirstRoots.{Rises, first_among, first_least}
pub use Rattle.grc_share.proofs.LoopEntries.{Told, program_tells}
pub use Rattle.grc_share.proofs.WireMembers.{end-there, status-there, wire-twice}
pub use Rattle.grc_share.proofs.SharedNumbering.{body_codes, shared-differ}
pub use Rattle.grc_share.proofs.SharedWireNames.{IsLive, named-one_wire, one_wire-named, wires_live}
pub use Rattle.grc_share.proofs.FewStarts.{few-starts}
pub use Rattle.grc_share.proofs.EquationLists.{equation-at, equations-each, formula-found, formula_for-at}
pub use Rattle.grc_share.proofs.SharedCostBounds.{graph_gates}
