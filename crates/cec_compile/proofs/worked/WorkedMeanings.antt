-- What is seen of a small program by each kind of text, by hand, and what it means that a text keeps a program, field by field.
use Rattle.std.proofs.Common.{◌≡◌, ◌++◌, ℕ, Bool, true, false, List, [], ◌∷◌, map, Some, Ok, codes, refl, arith}
use Rattle.std.proofs.lemmas.Bool.{false≢true}
use Rattle.base_types.specs.Items.{Item}
use Rattle.base_types.specs.Names.{is_same_name}
use Rattle.base_types.specs.Relations.{Implies}
use Rattle.est_kernel.specs.Plain.{Program, given_names, outgoing_names}
use Rattle.est_kernel.specs.Reactions.{Answer, run_of}
use Rattle.est_kernel.specs.Terms.{Pause}
use Rattle.base_machines.specs.Machines.{Machine, Shows}
use Rattle.base_machines.specs.Machines as machines
use Rattle.net_ir.specs.Netlists.{Netlist, output_names}
use Rattle.net_ir.specs.Runs.{Shown, net_run}
use Rattle.blif_text.specs.Circuits.{reading}
use Rattle.blif_text.specs.Runs.{circuit_machine, IsCircuitRun, driven_names}
use Rattle.csub_text.specs.Machine.{program_machine}
use Rattle.csub_text.specs.Names.{inputs_of, outputs_of}
use Rattle.csub_text.specs.Texts.{Describes}
use Rattle.csub_text.specs.Trees.{Name, Not}
use Rattle.csub_text.specs.Trees as plain
use Rattle.csub_guard.specs.Machine as guards
use Rattle.csub_guard.specs.Texts as guard_texts
use Rattle.csub_guard.specs.Trees as guarded
use Rattle.vlog_text.specs.Machine as modules
use Rattle.vlog_text.specs.Machine.{vlog_machine}
use Rattle.vlog_text.specs.Texts as module_texts
use Rattle.cec_compile.specs.Meaning.{IsEvent, AreItems, Seen, seen_of, Keeps, outgoing_words, circuit_seen, TextKeeps, call_seen, CTextKeeps, output_wires}
use Rattle.cec_compile.specs.Meaning.{module_seen, VerilogTextKeeps}
use Rattle.cec_compile.specs.NetMeaning.{net_seen, NetKeeps}
use Rattle.cec_compile.specs.GuardedTexts.{guarded_seen, GuardedTextKeeps}

-- an input, a signal that is both, and an output; where A is given, B is
abbrev program : Program
program = record {
  name = codes "T";
  signals = codes "A" ∷ codes "B" ∷ codes "O" ∷ [];
  inputs = 1;
  both = 1;
  outputs = 1;
  relations = Implies 0 1 ∷ [];
  body = Pause;
}

-- ---- events

not_wide : IsEvent program (true ∷ []) → ⊥
not_wide h = let e = h.wide in omega (arith, e)

breaks_the_relation : IsEvent program (true ∷ false ∷ []) → ⊥
breaks_the_relation h = false≢true (h.meets 0 (Implies 0 0) (omega arith) refl)

-- ---- what is seen

abbrev sees : List Bool → Bool → Seen
sees outputs paused = record { outputs = outputs; paused = paused }

of_answers : map (λ k. seen_of (record { outputs = true ∷ []; code = k })) (0 ∷ 1 ∷ 2 ∷ []) ≡ sees (true ∷ []) false ∷ sees (true ∷ []) true
    ∷ sees (true ∷ []) false ∷ []
of_answers = refl

abbrev net_shows : List Bool → Bool → Shown
net_shows outputs paused = record { outputs = outputs; paused = paused }

of_answers_by_nets : map (λ k. net_seen (record { outputs = true ∷ []; code = k })) (0 ∷ 1 ∷ 2 ∷ [])
    ≡ net_shows (true ∷ []) false ∷ net_shows (true ∷ []) true ∷ net_shows (true ∷ []) false ∷ []
of_answers_by_nets = refl

words : outgoing_words program ≡ codes "B.out" ∷ codes "O" ∷ []
words = refl

-- where one name alone is true
of_circuits : map (λ name. circuit_seen program (is_same_name name)) (codes "B" ∷ codes "B.out" ∷ codes "O" ∷ codes "_paused" ∷ [])
    ≡ sees (false ∷ false ∷ []) false ∷ sees (true ∷ false ∷ []) false ∷ sees (false ∷ true ∷ []) false ∷ sees (false ∷ false ∷ []) true ∷ []
of_circuits = refl

wires : output_wires program ≡ codes "o_B" ∷ codes "o_O" ∷ []
wires = refl

of_modules : map (λ name. module_seen program (is_same_name name)) (codes "i_B" ∷ codes "o_B" ∷ codes "o_O" ∷ codes "paused" ∷ [])
    ≡ sees (false ∷ false ∷ []) false ∷ sees (true ∷ false ∷ []) false ∷ sees (false ∷ true ∷ []) false ∷ sees (false ∷ false ∷ []) true ∷ []
of_modules = refl

-- a program that returns the negation of an input
abbrev returned : plain.Program
returned = record { states = []; globals = codes "I_A" ∷ codes "O_B" ∷ codes "O_O" ∷ []; locals = []; body = []; answer = Not (Name (codes "I_A")) }

of_calls : map (λ name. call_seen returned (is_same_name name)) (codes "I_A" ∷ codes "O_B" ∷ codes "O_O" ∷ [])
    ≡ sees (false ∷ false ∷ []) false ∷ sees (true ∷ false ∷ []) true ∷ sees (false ∷ true ∷ []) true ∷ []
of_calls = refl

abbrev returned_too : guarded.Program
returned_too = record { states = []; globals = codes "I_A" ∷ codes "O_B" ∷ codes "O_O" ∷ []; locals = []; body = []; answer = Not (Name (codes "I_A")) }

of_guarded_calls : map (λ name. guarded_seen returned_too (record { memory = is_same_name name; count = 3 })) (codes "I_A" ∷ codes "O_B" ∷ codes "O_O" ∷ [])
    ≡ sees (false ∷ false ∷ []) false ∷ sees (true ∷ false ∷ []) true ∷ sees (false ∷ true ∷ []) true ∷ []
of_guarded_calls = refl

-- ---- what is kept

by_machines : {X : Type 0} → (M : Machine X) (see : X → Seen) (p : Program) → Keeps M see p → (items : List Item) → AreItems p items
    → (answers : List Answer) × (run_of p items ≡ Some answers) × Shows M see M.start items (map seen_of answers)
by_machines M see p h = h.runs

by_nets : (net : Netlist) (p : Program) → NetKeeps net p → (net.name ≡ p.name) × (net.inputs ≡ given_names p) × (output_names net ≡ outgoing_names p)
by_nets net p h = (h.name, h.inputs, h.outputs)

by_runs_of_nets : (net : Netlist) (p : Program) → NetKeeps net p → (items : List Item) → AreItems p items
    → (answers : List Answer) × (run_of p items ≡ Some answers) × (net_run net items ≡ map net_seen answers)
by_runs_of_nets net p h = h.runs

by_texts : (text : List ℕ) (p : Program) (h : TextKeeps text p) → (reading text ≡ Ok h.circuit) × (h.circuit.name ≡ p.name)
    × (h.circuit.inputs ≡ given_names p) × (h.circuit.outputs ≡ outgoing_words p ++ codes "_paused"
    ∷ []) × Keeps (circuit_machine h.circuit) (circuit_seen p) p
by_texts text p h = (h.reads, h.name, h.inputs, h.outputs, h.keeps)

by_one_run : (text : List ℕ) (p : Program) (h : TextKeeps text p) → (items : List Item) → AreItems p items → (us vs : List (List ℕ → Bool))
    → IsCircuitRun h.circuit items us → IsCircuitRun h.circuit items vs
    → map (λ u. map u (driven_names h.circuit)) us ≡ map (λ v. map v (driven_names h.circuit)) vs
by_one_run text p h = h.one_run

by_c_texts : (text : List ℕ) (p : Program) (h : CTextKeeps text p) → Describes text h.program
    × (inputs_of h.program ≡ map (λ name. codes "I_" ++ name) (given_names p)) × (outputs_of h.program ≡ map (λ name. codes "O_" ++ name)
    (outgoing_names p))
    × Keeps (program_machine h.program) (call_seen h.program) p
by_c_texts text p h = (h.describes, h.inputs, h.outputs, h.keeps)

by_guarded_texts : (text : List ℕ) (p : Program) (h : GuardedTextKeeps text p) → guard_texts.Describes text h.program
    × (guards.inputs_of h.program ≡ map (λ name. codes "I_" ++ name) (given_names p))
    × (guards.outputs_of h.program ≡ map (λ name. codes "O_" ++ name) (outgoing_names p))
    × Keeps (guards.guarded_machine h.program) (guarded_seen h.program) p
by_guarded_texts text p h = (h.describes, h.inputs, h.outputs, h.keeps)

by_verilog_texts : (text : List ℕ) (p : Program) (h : VerilogTextKeeps text p) → module_texts.Describes text h.design
    × (h.design.name ≡ codes "m_" ++ p.name) × (h.design.inputs ≡ codes "clk" ∷ map (λ name. codes "i_" ++ name) (given_names p))
    × (h.design.outputs ≡ map (λ name. codes "o_" ++ name) (outgoing_names p) ++ codes "paused" ∷ []) × Keeps (vlog_machine h.design) (module_seen p) p
by_verilog_texts text p h = (h.describes, h.name, h.inputs, h.outputs, h.keeps)

by_one_run_of_modules : (text : List ℕ) (p : Program) (h : VerilogTextKeeps text p) → (items : List Item) → AreItems p items → (us vs : List (List ℕ
    → Bool))
    → machines.IsRun (vlog_machine h.design) items us → machines.IsRun (vlog_machine h.design) items vs
    → map (λ u. map u (modules.driven_names h.design)) us ≡ map (λ v. map v (modules.driven_names h.design)) vs
by_one_run_of_modules text p h = h.one_run
