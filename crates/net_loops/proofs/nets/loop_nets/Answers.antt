use Rattle.std.proofs.Common.{◌<◌, length, sym, subst, arith}
use Rattle.std.specs.Prelude.{All, IfSome, List}
use Rattle.std.proofs.lemmas.List.{length-map}
use Rattle.base_types.specs.declared.interface.SignalInfo.{SignalInfo}
use Rattle.est_kernel.specs.Plain.{program_of}
use Rattle.est_kernel.proofs.Exports.{trees_are_kernels_lem}
use Rattle.grc_ternary_gates.specs.declared.gates.Gate.{Gate}
use Rattle.net_ir.specs.Runs.{netlist_of}
use Rattle.net_cycles.specs.Packings.{AreCycleNets}
use Rattle.net_loops.proofs.nets.loop_nets.Goals as goal

pub cycle_nets-requires-clause-draws : goal.cycle_nets-requires-clause-draws
cycle_nets-requires-clause-draws c = record {
  words = c.in_ok-system.ensures.words;
  differ = c.in_ok-system.ensures.differ;
  plain = c.in_ok-system.ensures.plain;
  system = c.in_ok-system.ensures.system;
  schedule_fits = subst (All (λ n. n < length c.in_ok-system.system.gates.items)) (sym c.deref-2.ensures.value)
      (subst (λ (gates : List Gate). All (λ n. n < length gates) c.in_ok-schedule.schedule.items) c.deref.ensures.value c.in_ok-schedule.ensures);
}

pub cycle_nets-requires-clause-signals : goal.cycle_nets-requires-clause-signals
cycle_nets-requires-clause-signals c =
    omega (arith, length-map c.args.graph.now.program.signals.items (λ (s : SignalInfo). s.name), c.requires.formed.interface)

pub returns-in-Some : goal.returns-in-Some
returns-in-Some c =
    let g = c.args.graph.now in
    let p = program_of g.program in
    let y = c.in_ok-system.system in
    let schedule = c.deref-2.result.now in
    let net = netlist_of c.in-Some.nets.net in
    let check = netlist_of c.in-Some.nets.check in
    let are : AreCycleNets g c.in_ok-words.words y schedule net check =
    subst (λ o. IfSome o (λ made. AreCycleNets g c.in_ok-words.words y schedule (netlist_of made.net) (netlist_of made.check))) c.in-Some.is
    c.in_ok-nets.ensures in
    c.loop_nets_are_checked.ensures g p net check c.requires.formed (trees_are_kernels_lem g.program.body) c.requires.no_loop c.requires.graph
    (c.cycle_nets_are_loop_nets.ensures g c.in_ok-words.words y schedule net check c.requires.formed.interface are)
