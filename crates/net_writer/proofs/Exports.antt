-- What other crates use of these proofs.
pub use Rattle.net_writer.proofs.Joined.{count-mapped, count-numbered, joined-each, joined-last, joined-mapped, joined-numbered, joined-one}
pub use Rattle.net_writer.proofs.SectionParts.{put-counted, section_parts}
pub use Rattle.net_writer.proofs.NetMachines.{HasNet, runs, runs-are, runs-tell}
