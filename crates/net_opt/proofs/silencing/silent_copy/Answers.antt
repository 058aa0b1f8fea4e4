use Rattle.std.proofs.Common.{◌∙◌}
use Rattle.net_ir.specs.Runs.{netlist_of}
use Rattle.net_opt.proofs.Parts.{silent-has, silent-with}
use Rattle.net_opt.proofs.silencing.silent_copy.Goals as goal

pub joined_net-requires-clause-parts : goal.joined_net-requires-clause-parts
joined_net-requires-clause-parts c = silent-has (netlist_of c.args.net.now) c.in_ok-parts.parts c.args.net.now.is_net c.in_ok-parts.ensures

pub returns : goal.returns
returns c = c.joined_net.ensures ∙ silent-with (netlist_of c.args.net.now) c.in_ok-parts.parts c.in_ok-parts.ensures
