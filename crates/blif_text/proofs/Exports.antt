-- What other crates use of these proofs.
pub use Rattle.blif_text.proofs.SaidNames.{map-last, names_of-last}
pub use Rattle.blif_text.proofs.Described.{IsSound, described-sound}
pub use Rattle.blif_text.proofs.NetNames.{gate_words, input_words, latch_words, net_word-at, net_words, shown_words}
pub use Rattle.blif_text.proofs.NetDrivers.{driven-net, names-differ}
pub use Rattle.blif_text.proofs.NetSpelling.{reading-written}
