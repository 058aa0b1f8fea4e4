use Rattle.std.proofs.Common.{◌≡◌, ◌≤◌, ◌∷◌, List, length, map, refl, sym, ap, ◌∙◌, subst, arith}
use Rattle.std.proofs.lemmas.List.{length-map}
use Rattle.base_types.specs.declared.interface.SignalInfo.{SignalInfo}
use Rattle.base_types.specs.declared.indices.NetId.{NetId}
use Rattle.est_kernel.specs.declared.programs.KernelProgram.{KernelProgram}
use Rattle.est_kernel.specs.Plain.{program_of, interface_count, given_names, outgoing_names}
use Rattle.grc_formulas.specs.declared.table.Source.{Source}
use Rattle.net_ir.specs.Netlists.{Netlist}
use Rattle.net_gen.specs.Assembled.{IsAround, boot_latch, leaf_latch}
use Rattle.net_gen.specs.Drawings.{drawing_of}
use Rattle.net_gen.specs.Readiness.{source_net}
use Rattle.net_gen.proofs.NetFacts.{is-net, has-interface, follows-instants}
use Rattle.net_gen.proofs.NetRuns.{follows-runs}
use Rattle.net_gen.proofs.SizeBounds.{numbers_small}
use Rattle.net_gen.proofs.assembly.net_over.Goals as goal

pub invariant_of-result : goal.invariant_of-result
invariant_of-result c =
    let g = c.args.graph.now in
    let w = c.args.words.now in
    let circuit = c.in_ok-circuit.field-0.circuit in
    let nets = c.in_ok-circuit.field-0.next.items in
    let program = c.program-program.ensures in
    let net : Netlist = record {
      name = c.in_ok-name.name;
      inputs = c.in_ok-inputs.inputs.items;
      outputs = c.in_ok-outputs.outputs.items;
      paused = c.source-paused.result.0;
      latches = c.in_ok-latches.latches.items;
      gates = circuit.gates.items;
    } in
    let around : IsAround g w (drawing_of circuit) nets net = record {
      name = c.in_ok-name.ensures ∙ c.bytes.ensures ∙ ap (λ (p : KernelProgram). p.name) program;
      inputs = c.in_ok-inputs.ensures ∙ ap (λ (p : KernelProgram). given_names (program_of p)) program;
      outputs = c.in_ok-outputs.ensures.names ∙ ap (λ (p : KernelProgram). outgoing_names (program_of p)) program;
      output_nets = c.in_ok-outputs.ensures.nets ∙ ap (map (source_net (drawing_of circuit))) c.deref.ensures.value;
      paused = ap (λ (n : NetId). n.0) c.source-paused.ensures;
      latches = c.in_ok-latches.ensures ∙ ap (λ xs. boot_latch circuit.no ∷ map leaf_latch xs) c.deref-2.ensures.value;
      gates = refl;
    } in
    let signals : interface_count (program_of g.program) ≤ length (program_of g.program).signals =
    omega (arith, length-map g.program.signals.items (λ (s : SignalInfo). s.name), c.requires.signals) in
    record {
      is_net = is-net g w _ c.args.order.now.list.items (drawing_of circuit) nets net signals c.requires.names c.requires.order c.requires.words
          c.in_ok-circuit.ensures around;
    }

pub returns-clause-graph : goal.returns-clause-graph
returns-clause-graph c =
    let g = c.args.graph.now in
    let w = c.args.words.now in
    let circuit = c.in_ok-circuit.field-0.circuit in
    let nets = c.in_ok-circuit.field-0.next.items in
    let program = c.program-program.ensures in
    let net : Netlist = record {
      name = c.in_ok-name.name;
      inputs = c.in_ok-inputs.inputs.items;
      outputs = c.in_ok-outputs.outputs.items;
      paused = c.source-paused.result.0;
      latches = c.in_ok-latches.latches.items;
      gates = circuit.gates.items;
    } in
    let around : IsAround g w (drawing_of circuit) nets net = record {
      name = c.in_ok-name.ensures ∙ c.bytes.ensures ∙ ap (λ (p : KernelProgram). p.name) program;
      inputs = c.in_ok-inputs.ensures ∙ ap (λ (p : KernelProgram). given_names (program_of p)) program;
      outputs = c.in_ok-outputs.ensures.names ∙ ap (λ (p : KernelProgram). outgoing_names (program_of p)) program;
      output_nets = c.in_ok-outputs.ensures.nets ∙ ap (map (source_net (drawing_of circuit))) c.deref.ensures.value;
      paused = ap (λ (n : NetId). n.0) c.source-paused.ensures;
      latches = c.in_ok-latches.ensures ∙ ap (λ xs. boot_latch circuit.no ∷ map leaf_latch xs) c.deref-2.ensures.value;
      gates = refl;
    } in
    let signals : interface_count (program_of g.program) ≤ length (program_of g.program).signals =
    omega (arith, length-map g.program.signals.items (λ (s : SignalInfo). s.name), c.requires.signals) in
    let interface = has-interface g w c.args.order.now.list.items (drawing_of circuit) nets net c.in_ok-circuit.ensures around in
    let instants = follows-instants g w c.args.order.now.list.items (drawing_of circuit) nets net signals c.requires.words c.in_ok-circuit.ensures around in
    record { interface = interface; instants = instants; runs = follows-runs g net interface instants }

pub make_circuit-requires-clause-room : goal.make_circuit-requires-clause-room
make_circuit-requires-clause-room c = numbers_small c.args.graph.now c.args.words.now _ c.args.order.now.list.items c.requires.order
