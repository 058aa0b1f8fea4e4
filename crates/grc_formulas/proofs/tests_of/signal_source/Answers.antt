use Rattle.std.proofs.Common.{sym, subst}
use Rattle.grc_graph.specs.Layers.{Resumed}
use Rattle.grc_graph.specs.Wires.{Out, StatusOf}
use Rattle.grc_formulas.specs.declared.table.Source.{Source}
use Rattle.grc_formulas.specs.Testing.{SignalSaid, wire_source}
use Rattle.grc_formulas.proofs.TestSteps.{wire-says}
use Rattle.grc_formulas.proofs.tests_of.signal_source.Goals as goal

pub returns-in-Outgoing : goal.returns-in-Outgoing
returns-in-Outgoing c =
    let g = c.args.graph.now in
    subst (λ (x : Source). SignalSaid g c.args.signal.0 c.args.binding x) (sym c.wire_source.ensures)
    (subst (λ b. SignalSaid g c.args.signal.0 b (wire_source c.out.result)) (sym c.in-Outgoing.is)
    (λ rs. wire-says g c.args.near.now c.out.result (Out c.args.signal.0) rs c.requires c.out.ensures))

pub returns-in-Bound : goal.returns-in-Bound
returns-in-Bound c =
    let g = c.args.graph.now in
    subst (λ (x : Source). SignalSaid g c.args.signal.0 c.args.binding x) (sym c.wire_source-in-Bound.ensures)
    (subst (λ b. SignalSaid g c.args.signal.0 b (wire_source c.find_status.result)) (sym c.in-Bound.is)
    (λ rs. wire-says g c.args.near.now c.find_status.result (StatusOf c.in-Bound.binder Resumed) rs c.requires c.find_status.ensures))
