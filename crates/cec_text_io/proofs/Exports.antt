-- What other crates use of these proofs.
pub use Rattle.cec_text_io.proofs.Pieces.{pieces_as}
pub use Rattle.cec_text_io.proofs.Reading.{held_by, held_read, held_told, long_unread, never_rose, some_bytes}
pub use Rattle.cec_text_io.proofs.Lines.{line_after, whole_or_front}
