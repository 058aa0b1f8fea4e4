-- Worked texts, by hand: which fault is the first, and which outputs a circuit has; and what a written text keeps, field by field.
use Rattle.std.proofs.Common.{◌≡◌, ◌++◌, ℕ, Bool, List, [], ◌∷◌, map, Result, Ok, Err, codes, refl, arith}
use Rattle.std.specs.Prelude.{flat_map}
use Rattle.std.proofs.lemmas.List.Elements.{All-nil}
use Rattle.base_types.specs.Items.{Item, EachEvent}
use Rattle.base_types.specs.Relations.{Relation, Implies, Excludes, Meets, MeetsAll}
use Rattle.net_expressions.specs.Values.{value_of}
use Rattle.base_machines.specs.Machines.{Machine, Shows}
use Rattle.net_ir.specs.Netlists.{Netlist}
use Rattle.net_opt.specs.Shown.{EachIsShown}
use Rattle.net_relations.specs.Under.{OptimizesUnder}
use Rattle.net_simp.specs.SimpleNets.{IsSimple}
use Rattle.blif_text.specs.Circuits.{Circuit, reading}
use Rattle.blif_text.specs.Circuits as circuits
use Rattle.blif_text.specs.Runs.{circuit_machine}
use Rattle.blif_read.specs.declared.fault.BlifFault.TheVariants as faults
use Rattle.blif_net.specs.Conversions.{IsNetOf}
use Rattle.blif_net.specs.Interfaces.{IsCircuitFault}
use Rattle.csub_text.specs.Machine.{program_machine}
use Rattle.csub_text.specs.Names.{inputs_of, outputs_of}
use Rattle.csub_text.specs.Texts as c_texts
use Rattle.vlog_text.specs.Machine.{vlog_machine}
use Rattle.vlog_text.specs.Texts as vlog_texts
use Rattle.blif_net.specs.Conversions.{FitsCircuit}
use Rattle.cec_opt_texts.specs.Alike.{IsExpected, ShowAlike, HasOutputs, BlifKeeps, CKeeps, VerilogKeeps}
use Rattle.cec_opt_texts.specs.Faults.{IsGivenFault, IsNoInput, IsOptFault}
use Rattle.cec_opt_texts.specs.Optimized.{IsSmallFor, IsSmallOf, IsSmallNetOf, IsTextNet}
use Rattle.cec_opt_texts.specs.Related.{GivenRelation, Never, Implication, names_between_commas, numbered_relations}

-- ---- faults: the lines of a text behind `.model m` and before `.end`

abbrev text : List (List ℕ) → List ℕ
text lines = flat_map (λ l. l ++ 10 ∷ []) (codes ".model m" ∷ (lines ++ codes ".end" ∷ []))

a_row_without_a_table : IsOptFault (text (codes "1" ∷ [])) (faults.Line 2)
a_row_without_a_table = refl

driven_twice : IsOptFault (text (codes ".inputs a" ∷ codes ".names a" ∷ [])) (faults.TwoDrivers (codes "a"))
driven_twice = refl

not_driven : IsOptFault (text (codes ".outputs b" ∷ [])) (faults.NoDriver (codes "b"))
not_driven = refl

abbrev refused : circuits.CircuitFault → Result Circuit circuits.CircuitFault
refused fault = Err fault

not_the_next_line : IsOptFault (text (codes "1" ∷ [])) (faults.Line 3) → ⊥
not_the_next_line h = differ h
  where
    differ : refused (circuits.Line 2) ≡ refused (circuits.Line 3) → ⊥
    differ e = cc

no_other_name : IsOptFault (text (codes ".outputs b" ∷ [])) (faults.NoDriver []) → ⊥
no_other_name h = differ h
  where
    differ : refused (circuits.NoDriver (codes "b")) ≡ refused (circuits.NoDriver []) → ⊥
    differ e = cc

of_a_circuit : (text : List ℕ) → IsOptFault text faults.NoPause
    → (circuit : Circuit) × (reading text ≡ Ok circuit) × IsCircuitFault circuit faults.NoPause
of_a_circuit text h = h

not_for_its_length : (text : List ℕ) → IsOptFault text faults.TooLong → ⊥
not_for_its_length text h = h

-- ---- interfaces

abbrev circuit : Circuit
circuit = record {
  name = codes "m";
  inputs = codes "A" ∷ codes "B" ∷ [];
  outputs = codes "B.out" ∷ codes "O" ∷ codes "_paused" ∷ [];
  latches = [];
  tables = [];
}

its_outputs : HasOutputs circuit (codes "B" ∷ codes "O" ∷ [])
its_outputs = refl

not_wide : FitsCircuit circuit [] → ⊥
not_wide h = omega (arith, h)

shown_alike : {X : Type 0} → (circuit : Circuit) (relations : List Relation) (M : Machine X) (see : X → List Bool) → ShowAlike circuit relations M see
    → (items : List Item) → EachEvent (IsExpected circuit relations) items → (seen : List (List Bool))
    × Shows (circuit_machine circuit) (λ v. map v circuit.outputs) (circuit_machine circuit).start items seen × Shows M see M.start items seen
shown_alike circuit relations M see h = h.alike

-- ---- relations by the names of inputs

abbrev inputs : List (List ℕ)
inputs = codes "A" ∷ codes "B" ∷ codes "C" ∷ []

between_commas : names_between_commas (codes "A,BC,,D") ≡ codes "A" ∷ codes "BC" ∷ [] ∷ codes "D" ∷ []
between_commas = refl

at_most_one : numbered_relations inputs (Never (codes "C" ∷ codes "A" ∷ codes "B" ∷ []) ∷ []) ≡ Ok (Excludes (2 ∷ 0 ∷ 1 ∷ []) ∷ [])
at_most_one = refl

in_their_order : numbered_relations inputs (Implication (codes "A") (codes "B") ∷ Implication (codes "C") (codes "A") ∷ [])
    ≡ Ok (Implies 0 1 ∷ Implies 2 0 ∷ [])
in_their_order = refl

the_first_unknown : numbered_relations inputs (Implication (codes "A") (codes "X") ∷ Never (codes "Y" ∷ codes "A" ∷ []) ∷ []) ≡ Err (codes "X")
the_first_unknown = refl

the_cause_first : numbered_relations inputs (Implication (codes "X") (codes "Y") ∷ []) ≡ Err (codes "X")
the_cause_first = refl

of_a_list : numbered_relations inputs (Never (codes "A" ∷ codes "Y" ∷ codes "X" ∷ []) ∷ Implication (codes "Z") (codes "A") ∷ []) ≡ Err (codes "Y")
of_a_list = refl

-- without relations each event counts that has one value for each input
none_of_none : numbered_relations inputs [] ≡ Ok []
none_of_none = refl

without_relations : (event : List Bool) → FitsCircuit circuit event → IsExpected circuit [] event
without_relations event fits = record { fits = fits; meets = All-nil (Meets event) }

expected : (c : Circuit) (relations : List Relation) (event : List Bool) (h : IsExpected c relations event) → FitsCircuit c event
    × MeetsAll relations event
expected c relations event h = (h.fits, h.meets)

-- ---- faults of relations

no_fault_without : (text name : List ℕ) → IsOptFault text (faults.NoInput name) → ⊥
no_fault_without text name h = h

of_the_text_first : IsGivenFault (text (codes "1" ∷ [])) (Never (codes "A" ∷ codes "B" ∷ []) ∷ []) (faults.Line 2)
of_the_text_first = refl

of_its_relations : (text : List ℕ) (given : List GivenRelation) (name : List ℕ) (h : IsGivenFault text given (faults.NoInput name))
    → (reading text ≡ Ok h.circuit) × IsNetOf h.circuit h.net × (numbered_relations h.circuit.inputs given ≡ Err name)
of_its_relations text given name h = (h.reads, h.is, h.lacks)

no_input : (IsNoInput (numbered_relations inputs (Implication (codes "X") (codes "A") ∷ [])) (faults.NoInput (codes "X")))
    × (IsNoInput (numbered_relations inputs (Implication (codes "X") (codes "A") ∷ [])) (faults.Line 1) → ⊥)
no_input = (refl, λ h. h)

-- ---- what is kept

by_blif_texts : (text : List ℕ) (given : List GivenRelation) (written : List ℕ) (h : BlifKeeps text given written) → (reading text ≡ Ok h.old)
    × (numbered_relations h.old.inputs given ≡ Ok h.relations) × (reading written ≡ Ok h.new) × (h.new.name ≡ h.old.name)
    × (h.new.inputs ≡ h.old.inputs) × (h.new.outputs ≡ h.old.outputs)
    × ShowAlike h.old h.relations (circuit_machine h.new) (λ v. map v h.new.outputs)
by_blif_texts text given written h = (h.reads, h.related, h.reads_back, h.name, h.inputs, h.outputs, h.shows)

by_c_texts : (text : List ℕ) (given : List GivenRelation) (written : List ℕ) (h : CKeeps text given written) → (reading text ≡ Ok h.old)
    × (numbered_relations h.old.inputs given ≡ Ok h.relations) × HasOutputs h.old h.names × c_texts.Describes written h.new
    × (inputs_of h.new ≡ map (λ name. codes "I_" ++ name) h.old.inputs) × (outputs_of h.new ≡ map (λ name. codes "O_" ++ name) h.names)
    × ShowAlike h.old h.relations (program_machine h.new) (λ memory. map memory (outputs_of h.new) ++ value_of memory h.new.answer ∷ [])
by_c_texts text given written h = (h.reads, h.related, h.named, h.describes, h.inputs, h.outputs, h.shows)

by_verilog_texts : (text : List ℕ) (given : List GivenRelation) (written : List ℕ) (h : VerilogKeeps text given written) → (reading text ≡ Ok h.old)
    × (numbered_relations h.old.inputs given ≡ Ok h.relations) × HasOutputs h.old h.names × vlog_texts.Describes written h.new
    × (h.new.name ≡ codes "m_" ++ h.old.name) × (h.new.inputs ≡ codes "clk" ∷ map (λ name. codes "i_" ++ name) h.old.inputs)
    × (h.new.outputs ≡ map (λ name. codes "o_" ++ name) h.names ++ codes "paused" ∷ [])
    × ShowAlike h.old h.relations (vlog_machine h.new) (λ v. map v h.new.outputs)
by_verilog_texts text given written h = (h.reads, h.related, h.named, h.describes, h.name, h.inputs, h.outputs, h.shows)

by_netlists : (circuit : Circuit) (given : List GivenRelation) (net : Netlist) (h : IsSmallOf circuit given net) → IsNetOf circuit h.made
    × IsSmallFor given h.made net
by_netlists circuit given net h = (h.is, h.small)

by_smaller_ones : (given : List GivenRelation) (made net : Netlist) (h : IsSmallFor given made net) → (numbered_relations made.inputs given ≡ Ok h.relations)
    × OptimizesUnder h.relations made net × IsSimple net × EachIsShown net
by_smaller_ones given made net h = (h.named, h.optimizes, h.simple, h.shown)

of_texts : (text : List ℕ) (given : List GivenRelation) (net : Netlist) → ((h : IsSmallNetOf text given net) → (reading text ≡ Ok h.circuit)
    × IsSmallOf h.circuit given net) × ((h : IsTextNet text net) → (reading text ≡ Ok h.circuit) × IsNetOf h.circuit net)
of_texts text given net = (λ h. (h.reads, h.small), λ h. (h.reads, h.is))
