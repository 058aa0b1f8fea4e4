use Rattle.std.proofs.Common.{◌≤◌, ◌∷◌, length, map, sym, ap, ◌∙◌, subst, arith, All, IsTrue, slice_index_or}
use Rattle.std.proofs.lemmas.List.{length-map}
use Rattle.base_types.specs.declared.interface.SignalInfo.{SignalInfo}
use Rattle.base_types.specs.declared.indices.NetId.{NetId}
use Rattle.est_kernel.specs.declared.programs.KernelProgram.{KernelProgram}
use Rattle.est_kernel.specs.Plain.{program_of, interface_count, given_names, outgoing_names}
use Rattle.grc_formulas.specs.declared.table.Source.{Source}
use Rattle.grc_formulas.specs.Rows.{source_fits}
use Rattle.grc_formulas.specs.WordLaws.{late_bounds}
use Rattle.net_ir.specs.Netlists.{Netlist}
use Rattle.net_gen.specs.Assembled.{boot_latch, leaf_latch}
use Rattle.net_cycles.specs.Bases.{bounds_of, source_net}
use Rattle.net_cycles.specs.Packings.{IsAroundDrawn}
use Rattle.net_cycles.proofs.Packed.{is-net}
use Rattle.net_cycles.proofs.packing.net_around.Goals as goal

pub invariant_of-result : goal.invariant_of-result
invariant_of-result c =
    let g = c.args.graph.now in
    let w = c.args.words.now in
    let d = c.args.drawn.now in
    let program = c.program-program.ensures in
    let S = source_net d.base d.copies.items d.rows.items in
    let net : Netlist = record {
      name = c.in_ok-name.name;
      inputs = c.in_ok-inputs.inputs.items;
      outputs = c.in_ok-outputs.outputs.items;
      paused = c.source_net-paused.result.0;
      latches = c.in_ok-latches.latches.items;
      gates = c.in_ok-gates.gates.items;
    } in
    let around : IsAroundDrawn g w d net = record {
      name = c.in_ok-name.ensures ∙ c.bytes.ensures ∙ ap (λ (p : KernelProgram). p.name) program;
      inputs = c.in_ok-inputs.ensures ∙ ap (λ (p : KernelProgram). given_names (program_of p)) program;
      outputs = c.in_ok-outputs.ensures.names ∙ ap (λ (p : KernelProgram). outgoing_names (program_of p)) program;
      output_nets = c.in_ok-outputs.ensures.nets ∙ ap (map S) c.deref.ensures.value;
      paused = ap (λ (n : NetId). n.0) (c.source_net-paused.ensures ∙ ap (λ xs. source_net d.base xs c.deref-5.result.now w.paused) c.deref-4.ensures.value
          ∙ ap (λ xs. source_net d.base d.copies.items xs w.paused) c.deref-5.ensures.value);
      latches = c.in_ok-latches.ensures ∙ ap (λ xs. boot_latch d.base.no ∷ map leaf_latch xs) c.deref-2.ensures.value;
      gates = c.in_ok-gates.ensures ∙ c.deref-3.ensures.value;
    } in
    let signals : interface_count (program_of g.program) ≤ length (program_of g.program).signals =
    omega (arith, length-map g.program.signals.items (λ (s : SignalInfo). s.name), c.requires.signals) in
    record {
      is_net = is-net g w c.args.system.now c.args.schedule.now d net c.requires.drawn signals around c.requires.names c.requires.words;
    }

pub returns : goal.returns
returns c =
    let g = c.args.graph.now in
    let w = c.args.words.now in
    let d = c.args.drawn.now in
    let program = c.program-program.ensures in
    let S = source_net d.base d.copies.items d.rows.items in
    let net : Netlist = record {
      name = c.in_ok-name.name;
      inputs = c.in_ok-inputs.inputs.items;
      outputs = c.in_ok-outputs.outputs.items;
      paused = c.source_net-paused.result.0;
      latches = c.in_ok-latches.latches.items;
      gates = c.in_ok-gates.gates.items;
    } in
    let around : IsAroundDrawn g w d net = record {
      name = c.in_ok-name.ensures ∙ c.bytes.ensures ∙ ap (λ (p : KernelProgram). p.name) program;
      inputs = c.in_ok-inputs.ensures ∙ ap (λ (p : KernelProgram). given_names (program_of p)) program;
      outputs = c.in_ok-outputs.ensures.names ∙ ap (λ (p : KernelProgram). outgoing_names (program_of p)) program;
      output_nets = c.in_ok-outputs.ensures.nets ∙ ap (map S) c.deref.ensures.value;
      paused = ap (λ (n : NetId). n.0) (c.source_net-paused.ensures ∙ ap (λ xs. source_net d.base xs c.deref-5.result.now w.paused) c.deref-4.ensures.value
          ∙ ap (λ xs. source_net d.base d.copies.items xs w.paused) c.deref-5.ensures.value);
      latches = c.in_ok-latches.ensures ∙ ap (λ xs. boot_latch d.base.no ∷ map leaf_latch xs) c.deref-2.ensures.value;
      gates = c.in_ok-gates.ensures ∙ c.deref-3.ensures.value;
    } in
    around

pub outputs_of-requires-clause-fit : goal.outputs_of-requires-clause-fit
outputs_of-requires-clause-fit c =
    let g = c.args.graph.now in
    let w = c.args.words.now in
    let all = subst (All (λ (s : Source). IsTrue (source_fits (late_bounds g (length w.rows.items)) s))) (sym c.deref.ensures.value)
    c.requires.words.fit.outputs in
    λ k s low. c.requires.drawn.fits (slice_index_or c.deref.result.now k s) (all k s low)

pub source_net-paused-requires-clause-fits : goal.source_net-paused-requires-clause-fits
source_net-paused-requires-clause-fits c =
    let d = c.args.drawn.now in
    let w = c.args.words.now in
    subst (λ xs. IsTrue (source_fits (bounds_of d.base (length xs) (length c.deref-5.result.now)) w.paused)) (sym c.deref-4.ensures.value)
    (subst (λ xs. IsTrue (source_fits (bounds_of d.base (length d.copies.items) (length xs)) w.paused)) (sym c.deref-5.ensures.value)
    (c.requires.drawn.fits w.paused c.requires.words.fit.paused))
