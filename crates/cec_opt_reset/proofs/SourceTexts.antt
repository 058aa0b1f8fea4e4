-- What the Verilog with a reset of a source keeps, and why a source has none.
use Rattle.std.proofs.Common.{◌≡◌, ◌≤◌, ℕ, Bool, List, [], ◌∷◌, ◌++◌, length, map, Option, Result, Ok, Err, sym, ap, ◌∙◌, subst, arith}
use Rattle.std.specs.Prelude.{IfOk, unwrap_or}
use Rattle.std.specs.List.{AllByRecursion}
use Rattle.std.proofs.lemmas.List.{length-take}
use Rattle.base_facts.proofs.Lists.{map-composed}
use Rattle.base_types.specs.Stops.{IfFault}
use Rattle.base_types.specs.declared.stop.Stop.{Stop}
use Rattle.est_kernel.specs.Plain.{Program, given_count}
use Rattle.net_ir.specs.declared.netlist.NetOut.{NetOut}
use Rattle.net_ir.specs.Netlists.{Netlist}
use Rattle.net_ir.specs.Runs.{Shown}
use Rattle.net_ir.proofs.Exports.{length-numbered}
use Rattle.vlog_text.specs.Names.{paused_name}
use Rattle.vlog_reset.specs.Faults.{IsResetFault}
use Rattle.vlog_reset.specs.Machine.{HasWidth, step_items}
use Rattle.vlog_reset.specs.Options.{ModuleOptions}
use Rattle.vlog_reset.specs.Written.{Means, input_name, net_register, outgoing_name, written}
use Rattle.cec_compile.specs.NetMeaning.{NetKeeps, net_seen}
use Rattle.cec_cycles.specs.Constructive.{IsConstructiveNetOf, StandsForConstructiveNet}
use Rattle.cec_opt_sources.specs.declared.light.Coding.{Coding}
use Rattle.cec_cycles.specs.declared.findings.CycleRefusal.{CycleRefusal}
use Rattle.cec_opt_faults.proofs.Exports.{unmade-as}
use Rattle.cec_opt_faults.specs.Causes.{IsSourceCause, IsUnmade}
use Rattle.cec_opt_faults.specs.declared.unmade.Unmade.{Unmade}
use Rattle.vlog_reset.specs.declared.fault.ResetFault.{ResetFault}
use Rattle.cec_opt_reset.specs.Faults.{IsProgramModuleFault, IsSourceResetFault}
use Rattle.cec_opt_reset.specs.Sources.{ResetTextKeeps, StandsForReset}

-- what a net shows, as the values of a module's outputs
abbrev pub shown_row : Shown → List Bool
shown_row s = s.outputs ++ s.paused ∷ []

-- a text that means a net keeps what the net keeps
net-keeps : (text : List ℕ) (o : ModuleOptions) (net : Netlist) (p : Program) → given_count p ≤ length p.signals → NetKeeps net p → Means text net o
    → ResetTextKeeps text o p
net-keeps text o net p few keeps means = record {
  verilog = means.verilog;
  describes = means.describes;
  name = means.name ∙ ap (unwrap_or o.name) keeps.name;
  clock = means.clock;
  reset = means.reset;
  manner = means.manner;
  inputs = means.inputs ∙ ap (map (input_name o)) keeps.inputs;
  outputs = means.outputs ∙ ap (λ l. l ++ paused_name ∷ []) (map-composed (outgoing_name o) (λ (output : NetOut). output.name) net.outputs
      ∙ ap (map (outgoing_name o)) keeps.outputs);
  runs = λ registers steps len fits.
      let wide : given_count p ≡ length net.inputs = sym (ap length keeps.inputs ∙ omega (arith, length-take (given_count p) p.signals)) in
      means.runs registers steps (len ∙ ap length means.registers ∙ length-numbered (net_register o net) 0 net.latches)
      (subst (λ n. AllByRecursion (HasWidth n) steps) wide fits);
  keeps = λ registers steps vs begins fits run.
      let found = keeps.runs (step_items o.manner steps) fits in (
        found.0,
        found.1,
        means.shows registers steps vs begins run ∙ ap (map shown_row) found.2 ∙ sym (map-composed shown_row net_seen found.0),
      );
}

-- ---- a text, and a fault of the names

pub source-stands : (text : List ℕ) (main : Option (List ℕ)) (coding : Coding) (o : ModuleOptions) (net : Netlist) (reset : List ℕ)
    → StandsForConstructiveNet text main net → IsConstructiveNetOf coding text main net → reset ≡ written o net → Means reset net o
    → StandsForReset text main coding o reset
source-stands text main coding o net reset stands made spelled means = record {
  program = stands.program;
  source = stands.source;
  limits = stands.limits;
  keeps = net-keeps reset o net stands.program stands.few stands.keeps means;
  net = net;
  stands = stands;
  made = made;
  spelled = spelled;
}

pub source-text : {Z : Type 0} (items : Z → List ℕ) (text : List ℕ) (main : Option (List ℕ)) (coding : Coding) (o : ModuleOptions) (net : Netlist)
    (result : Result Z (Stop (Unmade CycleRefusal ResetFault)))
    → StandsForConstructiveNet text main net → IsConstructiveNetOf coding text main net → IfOk result (λ t. items t ≡ written o net)
    → IfOk result (λ t. Means (items t) net o) → IfOk result (λ t. StandsForReset text main coding o (items t))
source-text items text main coding o net (Ok t) stands made spelled means = source-stands text main coding o net (items t) stands made spelled means
source-text items text main coding o net (Err stop) stands made spelled means = tt

-- a fault of the names, where the source has a netlist
pub source-fault : {Z : Type 0} (text : List ℕ) (main : Option (List ℕ)) (coding : Coding) (o : ModuleOptions) (net : Netlist)
    (result : Result Z (Stop (Unmade CycleRefusal ResetFault))) → StandsForConstructiveNet text main net → IsConstructiveNetOf coding text main net
    → IfFault result (IsUnmade (λ cause. ⊥) (IsResetFault o net))
    → IfFault result (IsSourceResetFault text main coding o)
source-fault text main coding o net result stands made is =
    unmade-as (IsSourceCause text main) (IsResetFault o net) (IsProgramModuleFault text main coding o) result
    (λ fault is. record { net = net; stands = stands; made = made; is = is }) is
