use Rattle.std.proofs.Common.{sym, ap, ◌∙◌, subst}
use Rattle.net_ir.specs.Runs.{netlist_of}
use Rattle.csub_guard_blocks.specs.Blocks.{guarded_text}
use Rattle.csub_guard_writer.specs.Meaning.{GuardedMeans}
use Rattle.csub_guard_writer.proofs.Means.{means-guarded}
use Rattle.csub_guard_writer.proofs.writer.guarded_pieces.Goals as goal

pub returns-clause-text : goal.returns-clause-text
returns-clause-text c = c.block_pieces.ensures ∙ ap (guarded_text (netlist_of c.args.net.now)) c.in_ok-owners.ensures.are

pub returns-clause-means : goal.returns-clause-means
returns-clause-means c =
    let net = netlist_of c.args.net.now in
    subst (λ text. GuardedMeans text net c.args.regions.now) (sym (c.block_pieces.ensures ∙ ap (guarded_text net) c.in_ok-owners.ensures.are))
    (means-guarded net c.look_at_wires.ensures c.args.regions.now)
