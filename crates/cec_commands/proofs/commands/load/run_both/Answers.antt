use Rattle.net_ir.specs.Runs.{netlist_of}
use Rattle.blif_run.specs.Ends as circuits
use Rattle.csub_run.specs.Ends as programs
use Rattle.cec_commands.specs.Loads.{drawn_items}
use Rattle.cec_commands.proofs.DrawnRuns.{machine-counts, counts-agree}
use Rattle.cec_commands.proofs.commands.load.run_both.Goals as goal

pub prove-unreachable-requires : goal.prove-unreachable-requires
prove-unreachable-requires c =
    let net = netlist_of c.args.net.now in
    let shown = machine-counts _ circuits.shows_nothing net c.in_ok-circuit.circuit c.run_drawn.new.circuit c.args.instants c.args.draw
    c.run_drawn.result.0 c.requires.inputs c.in_ok-circuit.ensures.shows c.run_drawn.ensures.shown in
    let called = machine-counts _ programs.shows_nothing net c.in_ok-machine.machine c.run_drawn.new.machine c.args.instants c.args.draw
    c.run_drawn.result.1 c.requires.inputs c.in_ok-machine.ensures.shows c.run_drawn.ensures.called in
    c.if-prove.true (counts-agree net (drawn_items c.args.instants c.args.draw) c.run_drawn.result.0 c.run_drawn.result.1 shown called).0

pub prove-unreachable-requires-2 : goal.prove-unreachable-requires-2
prove-unreachable-requires-2 c =
    let net = netlist_of c.args.net.now in
    let shown = machine-counts _ circuits.shows_nothing net c.in_ok-circuit.circuit c.run_drawn.new.circuit c.args.instants c.args.draw
    c.run_drawn.result.0 c.requires.inputs c.in_ok-circuit.ensures.shows c.run_drawn.ensures.shown in
    let called = machine-counts _ programs.shows_nothing net c.in_ok-machine.machine c.run_drawn.new.machine c.args.instants c.args.draw
    c.run_drawn.result.1 c.requires.inputs c.in_ok-machine.ensures.shows c.run_drawn.ensures.called in
    c.if-prove-2.true (counts-agree net (drawn_items c.args.instants c.args.draw) c.run_drawn.result.0 c.run_drawn.result.1 shown called).1

pub returns : goal.returns
returns c =
    machine-counts _ programs.shows_nothing (netlist_of c.args.net.now) c.in_ok-machine.machine c.run_drawn.new.machine c.args.instants c.args.draw
    c.run_drawn.result.1 c.requires.inputs c.in_ok-machine.ensures.shows c.run_drawn.ensures.called
