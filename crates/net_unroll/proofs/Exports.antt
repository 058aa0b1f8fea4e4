-- What other crates use of these proofs.
pub use Rattle.net_unroll.proofs.Growth.{grows-both, grows-none, grows-push, grows-value, nets-stay, pushed-new, pushed-number}
