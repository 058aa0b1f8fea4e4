-- The circuit of a net's text shows what the net does.
use Rattle.std.proofs.Common.{◌≡◌, true, ◌&&◌, List, [], ◌∷◌, ◌++◌, length, map}
use Rattle.std.proofs.Common.{sym, ap, ◌∙◌, subst}
use Rattle.std.proofs.lemmas.Bool.{and_parts}
use Rattle.std.proofs.lemmas.List.{length-map}
use Rattle.base_facts.proofs.Lists.{map-twice}
use Rattle.base_types.specs.Distinct.{all_differ, none_shared}
use Rattle.base_types.specs.Items.{Item}
use Rattle.base_types.specs.Names.{is_same_name}
use Rattle.net_ir.specs.declared.netlist.NetOut.{NetOut}
use Rattle.net_ir.specs.Netlists.{Netlist}
use Rattle.net_ir.specs.Runs.{net_run, net_values_run}
use Rattle.net_ir.proofs.Exports.{all_differ-append}
use Rattle.blif_text.specs.Circuits.{Circuit, CircuitLatch, Table}
use Rattle.blif_text.specs.Runs.{IsCircuitRun}
use Rattle.blif_text.specs.Written.{output_word, paused_word}
use Rattle.blif_text.proofs.Exports.{described-sound}
use Rattle.blif_run.specs.CircuitAnswers.{listed_count, answer_of, circuit_shows}
use Rattle.blif_run.specs.Loops.{IsDescribed}
use Rattle.blif_run.specs.Runners.{Runner, IsFresh}
use Rattle.blif_run.specs.Showing.{runner_shows}
use Rattle.blif_run.specs.Tracing.{IsCircuitOf}
use Rattle.blif_run.proofs.Showing.{fresh_shows}
use Rattle.run_over_traces.specs.Languages.{shown_answer, IsOfNet}
use Rattle.run_over_traces.specs.Machines.{ShownAnswer}
use Rattle.run_over_traces.proofs.Exports.{answers-run, listed-last}

-- the circuit of a text that means a net
abbrev same-circuit : (net : Netlist) (circuit : Circuit) → (of : IsCircuitOf net circuit) → circuit ≡ of.means.circuit
same-circuit net circuit of = let both = sym of.reads ∙ of.means.reads in cc both

pub net-inputs : (net : Netlist) (circuit : Circuit) → IsCircuitOf net circuit → length circuit.inputs ≡ length net.inputs
net-inputs net circuit of = ap (λ (c : Circuit). length c.inputs) (same-circuit net circuit of) ∙ ap length of.means.inputs

pub net-outputs : (net : Netlist) (circuit : Circuit) → IsCircuitOf net circuit → listed_count circuit.outputs ≡ length net.outputs
net-outputs net circuit of =
    let names = map (λ (o : NetOut). output_word net.inputs o.name) net.outputs in
    ap (λ (c : Circuit). listed_count c.outputs) (same-circuit net circuit of) ∙ ap listed_count of.means.outputs ∙ listed-last paused_word names
    ∙ length-map net.outputs (λ (o : NetOut). output_word net.inputs o.name)

-- the circuit shows the net
circuit-net : (net : Netlist) (circuit : Circuit) → IsCircuitOf net circuit → (items : List Item) (answers : List ShownAnswer)
    → circuit_shows circuit items answers → answers ≡ map shown_answer (net_run net items)
circuit-net net circuit of items answers shows =
    let names = map (λ (o : NetOut). output_word net.inputs o.name) net.outputs in
    let count = length-map net.outputs (λ (o : NetOut). output_word net.inputs o.name) in
    let same = same-circuit net circuit of in
    let outputs : circuit.outputs ≡ names ++ paused_word ∷ [] = ap (λ (c : Circuit). c.outputs) same ∙ of.means.outputs in
    let vs = shows.some_run.0 in
    let run = subst (λ c. IsCircuitRun c items vs) same shows.some_run.1 in
    let rows = ap (λ (c : Circuit). map (λ v. map v c.outputs) vs) same ∙ of.means.shows items vs run in
    shows.each_run vs shows.some_run.1 ∙ sym (map-twice (answer_of circuit.outputs) (λ v. map v circuit.outputs) vs)
    ∙ ap (λ o. map (answer_of o) (map (λ v. map v circuit.outputs) vs)) outputs ∙ ap (map (answer_of (names ++ paused_word ∷ []))) rows
    ∙ answers-run paused_word net names (net_values_run net items) count

-- a fresh runner of it shows the net
pub runner-net : (net : Netlist) (r : Runner) → IsCircuitOf net r.circuit → IsFresh r → IsOfNet runner_shows r net
runner-net net r of fresh = record {
  told = λ items answers wide shows. circuit-net net r.circuit of items answers (fresh_shows r fresh items answers shows);
}

-- no two inputs of a circuit that some text describes have one name
pub inputs-differ : (circuit : Circuit) → IsDescribed circuit → all_differ is_same_name circuit.inputs ≡ true
inputs-differ circuit described =
    let sound = described-sound described.0 circuit described.1 in
    let others = map (λ (l : CircuitLatch). l.target) circuit.latches ++ map (λ (t : Table). t.output) circuit.tables in
    let parts = sym (all_differ-append is_same_name circuit.inputs others) ∙ sound.differ in
    let both = and_parts (all_differ is_same_name circuit.inputs && none_shared is_same_name circuit.inputs others) (all_differ is_same_name others) parts in
    (and_parts (all_differ is_same_name circuit.inputs) (none_shared is_same_name circuit.inputs others) both.0).0
