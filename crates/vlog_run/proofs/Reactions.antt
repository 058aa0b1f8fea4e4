-- What a runner does, from what its registers do.
use Rattle.std.proofs.Common.{◌≡◌, Bool, false, List, length, map, refl, sym, ap, ◌∙◌, replicate}
use Rattle.std.proofs.lemmas.List.{length-map}
use Rattle.base_facts.proofs.Lists.{map-composed}
use Rattle.run_steps.specs.Equations.{NameEquation}
use Rattle.run_steps.specs.Registers.{Frame, Advances, IsBegun}
use Rattle.run_steps.specs.Slots.{slot_in}
use Rattle.run_steps.proofs.Exports.{IsEquational, all-made, all-of-made, decided}
use Rattle.vlog_text.specs.Machine.{given_inputs, driven_names, IsInstant, initial_registers}
use Rattle.vlog_text.specs.Trees.{Register, VerilogModule}
use Rattle.vlog_text.specs.Views.{module_of}
use Rattle.vlog_text.specs.declared.trees.Module.{Module as CodeModule}
use Rattle.vlog_run.specs.Loops.{equation_of, equations_of}
use Rattle.vlog_run.specs.Plans.{IsPlan}
use Rattle.vlog_run.specs.Runners.{Reacts, IsFresh}
use Rattle.vlog_run.proofs.Described.{IsSound}
use Rattle.vlog_run.proofs.ModuleEquations.{names-are, sound-equations}

equational : (design : VerilogModule) → IsEquational (given_inputs design) (map (λ r. r.name) design.registers) (equations_of design) (IsInstant design)
equational design = record {
  makes = λ registers inputs v m. record {
    inputs_given = m.inputs_are;
    registers_kept = map-composed v (λ (r : Register). r.name) design.registers ∙ m.targets_are;
    assigns_met = all-of-made (λ (e : NameEquation). v e.output ≡ e.value v) equation_of design.assigns m.met;
  };
  tells = λ registers inputs v is. record {
    inputs_are = is.inputs_given;
    targets_are = sym (map-composed v (λ (r : Register). r.name) design.registers) ∙ is.registers_kept;
    met = all-made (λ (e : NameEquation). v e.output ≡ e.value v) equation_of design.assigns is.assigns_met;
  };
}

pub reacts-by : (code : CodeModule) → IsSound (module_of code) → (old new : Frame) (inputs : List Bool)
    → IsPlan (module_of code) old.plan old.sources old.shown → old.initial ≡ initial_registers (module_of code)
    → length inputs ≡ length (given_inputs (module_of code)) → Advances old inputs new
    → Reacts (record { code = code; registers = old.registers; outputs = old.outputs }) inputs
    (record { code = code; registers = new.registers; outputs = new.outputs })
reacts-by code sound old new inputs plan initial given adv =
    let design = module_of code in
    let kept = adv.each_register ∙ ap length initial ∙ length-map design.registers (λ (r : Register). r.init)
    ∙ sym (length-map design.registers (λ (r : Register). r.name)) in
    let r = decided (equational design) (names-are design) (sound-equations design sound) (map (λ r. r.from) design.registers) design.outputs old new inputs
    plan given kept adv in
    record {
      same = refl;
      valuation = r.valuation;
      instant = r.decides.instant;
      only = r.decides.only;
      outputs = r.outputs;
      registers = r.registers ∙ sym (map-composed r.valuation (λ (r : Register). r.from) design.registers);
    }

pub fresh-by : (code : CodeModule) (r : Frame) → r.initial ≡ initial_registers (module_of code) → length r.shown ≡ length (module_of code).outputs
    → IsBegun r → IsFresh (record { code = code; registers = r.registers; outputs = r.outputs })
fresh-by code r initial wide begun = record {
  registers_initial = begun.registers ∙ initial;
  outputs_false = begun.outputs ∙ ap (λ n. replicate n false) wide;
}

-- each output has a value after a reaction
pub advanced-wide : (design : VerilogModule) (old new : Frame) (inputs : List Bool) → IsPlan design old.plan old.sources old.shown → Advances old inputs new
    → length new.outputs ≡ length design.outputs
advanced-wide design old new inputs plan adv =
    ap length adv.outputs ∙ length-map old.shown _ ∙ ap length plan.shown_are.are ∙ length-map design.outputs (slot_in (driven_names design))
