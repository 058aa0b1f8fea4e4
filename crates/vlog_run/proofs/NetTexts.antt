-- The module of a net's text shows what the net does.
use Rattle.std.proofs.Common.{◌≡◌, List, [], ◌∷◌, ◌++◌, length, map, drop}
use Rattle.std.proofs.Common.{sym, ap, ◌∙◌, subst}
use Rattle.std.proofs.lemmas.List.{length-map}
use Rattle.base_facts.proofs.Lists.{map-twice}
use Rattle.base_types.specs.Items.{Item}
use Rattle.base_machines.specs.Machines.{IsRun}
use Rattle.net_ir.specs.Netlists.{Netlist}
use Rattle.net_ir.specs.Runs.{net_run, net_values_run}
use Rattle.run_over_traces.specs.Languages.{shown_answer, IsOfNet}
use Rattle.run_over_traces.specs.Machines.{ShownAnswer}
use Rattle.run_over_traces.proofs.Exports.{answers-run, listed-last}
use Rattle.vlog_text.specs.Machine.{given_inputs, vlog_machine}
use Rattle.vlog_text.specs.Names.{paused_name}
use Rattle.vlog_text.specs.Trees.{VerilogModule}
use Rattle.vlog_text.specs.Written.{input_name, output_name}
use Rattle.vlog_run.specs.ModuleAnswers.{listed_count, answer_of, module_shows}
use Rattle.vlog_run.specs.Runners.{Runner, module_in, IsFresh}
use Rattle.vlog_run.specs.Showing.{runner_shows}
use Rattle.vlog_run.specs.Tracing.{IsModuleOf}
use Rattle.vlog_run.proofs.Showing.{fresh_shows}

pub net-inputs : (net : Netlist) (design : VerilogModule) → IsModuleOf net design → length (given_inputs design) ≡ length net.inputs
net-inputs net design of =
    ap (λ (d : VerilogModule). length (given_inputs d)) of.is ∙ ap (λ l. length (drop 1 l)) of.means.inputs ∙ length-map net.inputs input_name

pub net-outputs : (net : Netlist) (design : VerilogModule) → IsModuleOf net design → listed_count design.outputs ≡ length net.outputs
net-outputs net design of =
    ap (λ (d : VerilogModule). listed_count d.outputs) of.is ∙ ap listed_count of.means.outputs ∙ listed-last paused_name (map output_name net.outputs)
    ∙ length-map net.outputs output_name

-- the module shows the net
module-net : (net : Netlist) (design : VerilogModule) → IsModuleOf net design → (items : List Item) (answers : List ShownAnswer)
    → module_shows design items answers → answers ≡ map shown_answer (net_run net items)
module-net net design of items answers shows =
    let names = map output_name net.outputs in
    let count = length-map net.outputs output_name in
    let outputs : design.outputs ≡ names ++ paused_name ∷ [] = ap (λ (d : VerilogModule). d.outputs) of.is ∙ of.means.outputs in
    let vs = shows.some_run.0 in
    let run = subst (λ d. IsRun (vlog_machine d) items vs) of.is shows.some_run.1 in
    let rows = ap (λ (d : VerilogModule). map (λ v. map v d.outputs) vs) of.is ∙ of.means.shows items vs run in
    shows.each_run vs shows.some_run.1 ∙ sym (map-twice (answer_of design.outputs) (λ v. map v design.outputs) vs)
    ∙ ap (λ o. map (answer_of o) (map (λ v. map v design.outputs) vs)) outputs ∙ ap (map (answer_of (names ++ paused_name ∷ []))) rows
    ∙ answers-run paused_name net names (net_values_run net items) count

-- a fresh runner of it shows the net
pub runner-net : (net : Netlist) (r : Runner) → IsModuleOf net (module_in r) → IsFresh r → IsOfNet runner_shows r net
runner-net net r of fresh = record {
  told = λ items answers wide shows. module-net net (module_in r) of items answers (fresh_shows r fresh items answers shows);
}
