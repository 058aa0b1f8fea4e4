use Rattle.std.proofs.Common.{map}
use Rattle.base_types.specs.Relations.{Excludes}
use Rattle.net_relations.specs.Implications.{IsSaid}
use Rattle.net_relations.proofs.Said.{adds-more}
use Rattle.net_relations.proofs.implications.push_apart.Goals as goal

pub loop-k-preserved : goal.loop-k-preserved
loop-k-preserved c =
    let P = IsSaid c.args.inputs (Excludes (map (λ s. s.0) c.args.signals.now)) in
    adds-more P P c.args.list.now.items c.loop-k.list.items c.push_pair.new.list.items c.loop-k.invariant c.in_ok-push_pair.ensures (λ i q. q)
