-- What a runner does, from what its registers do.
use Rattle.std.proofs.Common.{◌≡◌, ℕ, Bool, false, List, ◌++◌, length, map, refl, sym, ap, ◌∙◌, replicate}
use Rattle.std.proofs.lemmas.List.{length-map}
use Rattle.base_facts.proofs.Lists.{map-composed}
use Rattle.blif_text.specs.Circuits.{Circuit, CircuitLatch}
use Rattle.blif_text.specs.Runs.{IsInstant, driven_names, circuit_latches}
use Rattle.blif_text.proofs.Exports.{IsSound}
use Rattle.run_steps.specs.Equations.{NameEquation}
use Rattle.run_steps.specs.Slots.{slot_in}
use Rattle.run_steps.specs.Steps.{AreSolved}
use Rattle.run_steps.specs.Registers.{Frame, Advances, IsBegun}
use Rattle.run_steps.proofs.Exports.{IsEquational, IsOnlyOne, all-made, all-of-made, decided, solved-only}
use Rattle.blif_run.specs.Loops.{equation_of, equations_of}
use Rattle.blif_run.specs.Plans.{given_names, IsPlan}
use Rattle.blif_run.specs.Runners.{Reacts, IsFresh}
use Rattle.blif_run.proofs.CircuitEquations.{names-are, sound-equations}

equational : (c : Circuit) → IsEquational c.inputs (map (λ l. l.target) c.latches) (equations_of c) (IsInstant c)
equational c = record {
  makes = λ latches inputs v m. record {
    inputs_given = m.inputs_are;
    latches_kept = map-composed v (λ (l : CircuitLatch). l.target) c.latches ∙ m.targets_are;
    tables_met = all-of-made (λ (e : NameEquation). v e.output ≡ e.value v) equation_of c.tables m.met;
  };
  tells = λ latches inputs v is. record {
    inputs_are = is.inputs_given;
    targets_are = sym (map-composed v (λ (l : CircuitLatch). l.target) c.latches) ∙ is.latches_kept;
    met = all-made (λ (e : NameEquation). v e.output ≡ e.value v) equation_of c.tables is.tables_met;
  };
}

-- a valuation that meets the equations, and no other does, is the one of an instant
abbrev pub IsOnly : Circuit → List Bool → List Bool → (List ℕ → Bool) → Type 0
IsOnly c latches inputs v = IsOnlyOne (IsInstant c latches inputs) (driven_names c) v

pub only-instant : (c : Circuit) (latches inputs : List Bool) (v : List ℕ → Bool) → length inputs ≡ length c.inputs
    → AreSolved (given_names c) (equations_of c) (inputs ++ latches) v → IsOnly c latches inputs v
only-instant c latches inputs v given s = solved-only (equational c) (names-are c) latches inputs v given s

pub reacts-by : (c : Circuit) → IsSound c → (old new : Frame) (inputs : List Bool) → IsPlan c old.plan old.sources old.shown
    → old.initial ≡ circuit_latches c → length inputs ≡ length c.inputs → Advances old inputs new
    → Reacts (record { circuit = c; latches = old.registers; outputs = old.outputs }) inputs
    (record { circuit = c; latches = new.registers; outputs = new.outputs })
reacts-by c sound old new inputs plan initial given adv =
    let kept = adv.each_register ∙ ap length initial ∙ length-map c.latches (λ (l : CircuitLatch). l.init)
    ∙ sym (length-map c.latches (λ (l : CircuitLatch). l.target)) in
    let r = decided (equational c) (names-are c) (sound-equations c sound) (map (λ l. l.source) c.latches) c.outputs old new inputs plan given kept adv in
    record {
      same = refl;
      valuation = r.valuation;
      instant = r.decides.instant;
      only = r.decides.only;
      outputs = r.outputs;
      latches = r.registers ∙ sym (map-composed r.valuation (λ (l : CircuitLatch). l.source) c.latches);
    }

pub fresh-by : (c : Circuit) (r : Frame) → r.initial ≡ circuit_latches c → length r.shown ≡ length c.outputs → IsBegun r
    → IsFresh (record { circuit = c; latches = r.registers; outputs = r.outputs })
fresh-by c r initial wide begun = record {
  latches_initial = begun.registers ∙ initial;
  outputs_false = begun.outputs ∙ ap (λ n. replicate n false) wide;
}

-- each output has a value after a reaction
pub advanced-wide : (c : Circuit) (old new : Frame) (inputs : List Bool) → IsPlan c old.plan old.sources old.shown → Advances old inputs new
    → length new.outputs ≡ length c.outputs
advanced-wide c old new inputs plan adv =
    ap length adv.outputs ∙ length-map old.shown _ ∙ ap length plan.shown_are.are ∙ length-map c.outputs (slot_in (driven_names c))
