use Rattle.net_cycles.proofs.Sources.{source_nets_are_sources_lem}
use Rattle.net_cycles.proofs.laws.source_nets_are_sources.Goals as goal

pub returns : goal.returns
returns c = source_nets_are_sources_lem
