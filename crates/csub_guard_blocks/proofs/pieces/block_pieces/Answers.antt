use Rattle.std.proofs.Common.{map, ◌∙◌}
use Rattle.net_ir.specs.Runs.{netlist_of}
use Rattle.csub_guard_blocks.specs.Usages.{owner_in}
use Rattle.csub_guard_blocks.proofs.BlockTexts.{text-whole}
use Rattle.csub_guard_blocks.proofs.pieces.block_pieces.Goals as goal

pub returns : goal.returns
returns c = c.new.ensures ∙ text-whole (netlist_of c.args.net.now) (map owner_in c.args.owners.items)
