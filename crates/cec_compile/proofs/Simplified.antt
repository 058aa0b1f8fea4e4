-- A netlist follows a graph as the netlist does that it is made from: a simplified one, or one of the same runs.
use Rattle.std.proofs.Common.{◌≡◌, suc, ◌≤◌, Bool, false, List, [], ◌∷◌, length, map, drop, get_or, sym, ap, ◌∙◌, arith}
use Rattle.std.proofs.lemmas.List.{length-map, length-take}
use Rattle.base_types.proofs.Exports.{wide_events}
use Rattle.est_kernel.specs.Plain.{program_of, given_count}
use Rattle.grc_graph.specs.declared.graph.Graph.{Graph}
use Rattle.grc_graph.specs.Readings.{Valuation}
use Rattle.net_gen.specs.Generated.{HasInterfaceOf, Carries, EachInstant, FollowsInstants, FollowsRuns}
use Rattle.net_ir.specs.Gates.{carried}
use Rattle.net_ir.specs.Netlists.{Netlist, first_gate}
use Rattle.net_ir.specs.Runs.{net_values_run}
use Rattle.net_simp.specs.SameRuns.{carried_values, SameParts, SameInstants, SameRuns}
use Rattle.net_simp.proofs.Exports.{carrier}

-- ---- one instant

carries_stay : (g : Graph) (net new : Netlist) (values now : List Bool) (V : Valuation) → carried new.gates ≡ carried net.gates
    → carried_values (first_gate new) new.gates now ≡ carried_values (first_gate net) net.gates values → Carries g net values V → Carries g new now V
carries_stay g net new values now V wires same h = λ k x v within e.
    let c = carrier (first_gate net) (first_gate new) net.gates new.gates values now wires same k x v within e in
    sym c.value ∙ h c.at x v c.within (c.wire x)

latch_count : (g : Graph) (net : Netlist) → HasInterfaceOf g net → length net.latches ≡ suc (length g.next.items)
latch_count g net h = omega (
  arith,
  sym (length-map net.latches (λ l. l.init)) ∙ ap length h.latches,
  length-map g.next.items (λ f. false),
)

input_count : (g : Graph) (net : Netlist) → given_count (program_of g.program) ≤ length (program_of g.program).signals → HasInterfaceOf g net
    → length net.inputs ≡ given_count (program_of g.program)
input_count g net few h = ap length h.inputs ∙ omega (arith, length-take (given_count (program_of g.program)) (program_of g.program).signals, few)

-- ---- the interface, instants and runs

pub interface_stays : (g : Graph) (net new : Netlist) → SameParts net new → HasInterfaceOf g net → HasInterfaceOf g new
interface_stays g net new same h = record {
  name = same.name ∙ h.name;
  inputs = same.inputs ∙ h.inputs;
  outputs = same.outputs ∙ h.outputs;
  latches = same.latches ∙ h.latches;
}

pub instants_stay : (g : Graph) (net new : Netlist) → given_count (program_of g.program) ≤ length (program_of g.program).signals → HasInterfaceOf g net
    → SameParts net new → SameInstants net new → FollowsInstants g net → FollowsInstants g new
instants_stay g net new few interface parts same follows = λ t solves.
    let old = follows t solves in
    let now = same (t.boot ∷ t.bits) t.event (omega (arith, latch_count g net interface, t.one_per_leaf))
    (omega (arith, input_count g net few interface, t.one_per_given)) in
    record {
      carries = carries_stay g net new _ _ t.valuation parts.carries now.carries old.carries;
      shows = now.shows ∙ old.shows;
      next = now.next ∙ old.next;
    }

carries_all : (g : Graph) (net new : Netlist) → carried new.gates ≡ carried net.gates → (values now : List (List Bool)) (Vs : List Valuation)
    → map (carried_values (first_gate new) new.gates) now ≡ map (carried_values (first_gate net) net.gates) values
    → EachInstant (Carries g net) values Vs → EachInstant (Carries g new) now Vs
carries_all g net new wires [] [] Vs e h = h
carries_all g net new wires [] (now ∷ more) Vs e h = absurd (omega (arith, ap length e))
carries_all g net new wires (old ∷ olds) [] Vs e h = absurd (omega (arith, ap length e))
carries_all g net new wires (old ∷ olds) (now ∷ more) [] e h = absurd h
carries_all g net new wires (old ∷ olds) (now ∷ more) (V ∷ Vs) e h = (
  carries_stay g net new old now V wires (ap (λ (l : List (List Bool)). get_or l 0 []) e) h.0,
  carries_all g net new wires olds more Vs (ap (drop 1) e) h.1,
)

pub runs_stay : (g : Graph) (net new : Netlist) → given_count (program_of g.program) ≤ length (program_of g.program).signals → HasInterfaceOf g net
    → carried new.gates ≡ carried net.gates → SameRuns net new → FollowsRuns g net → FollowsRuns g new
runs_stay g net new few interface wires same follows = λ items Vs events run.
    let old = follows items Vs events run in
    let now = same items (wide_events _ _ (sym (input_count g net few interface)) items events) in
    record {
      shows = now.shows ∙ old.shows;
      carries = carries_all g net new wires (net_values_run net items) (net_values_run new items) Vs now.carries old.carries;
    }
