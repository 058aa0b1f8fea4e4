use Rattle.std.proofs.Common.{sym, ◌∙◌, subst}
use Rattle.net_ir.specs.Runs.{netlist_of}
use Rattle.vlog_reset.specs.Parts.{all_parts}
use Rattle.vlog_reset.specs.Views.{options_of}
use Rattle.vlog_reset.specs.Written.{Means}
use Rattle.vlog_reset.proofs.Joins.{written-joined}
use Rattle.vlog_reset.proofs.NetMeans.{Means-written}
use Rattle.vlog_reset.proofs.Places.{text-start}
use Rattle.vlog_reset.proofs.pieces.reset_pieces.Goals as goal

pub returns-clause-text : goal.returns-clause-text
returns-clause-text c =
    let o = options_of c.args.options in
    let net = netlist_of c.args.net.now in c.new.ensures ∙ text-start (all_parts o net) ∙ written-joined o net

pub returns-clause-means : goal.returns-clause-means
returns-clause-means c =
    let o = options_of c.args.options in
    let net = netlist_of c.args.net.now in
    subst (λ t. Means t net o) (sym (c.new.ensures ∙ text-start (all_parts o net) ∙ written-joined o net))
    (Means-written o net c.look_at_wires.ensures c.requires)
