-- To believe: what it means that a BLIF text, a C text or a Verilog text does what a kernel program means.
use Rattle.std.specs.Prelude.{◌≡◌, ℕ, Bool, List, [], ◌∷◌, ◌++◌, ◌==◌, map, length, Some, Ok, codes}
use Rattle.base_types.specs.Items.{Item, EachEvent}
use Rattle.base_types.specs.Relations.{MeetsAll}
use Rattle.est_kernel.specs.Plain.{Program, given_count, given_names, outgoing_names}
use Rattle.est_kernel.specs.Reactions.{Answer, run_of}
use Rattle.base_machines.specs.Machines.{Machine, Shows}
use Rattle.base_machines.specs.Machines as machines
use Rattle.blif_text.specs.Circuits.{Circuit, reading}
use Rattle.blif_text.specs.OutputNames.{output_word, paused_word}
use Rattle.blif_text.specs.Runs.{circuit_machine, IsCircuitRun, driven_names}
use Rattle.csub_text.specs.Machine.{Memory, value_of, program_machine}
use Rattle.csub_text.specs.Names.{inputs_of, outputs_of}
use Rattle.csub_text.specs.Texts.{Describes}
use Rattle.csub_text.specs.Trees.{Program as CProgram}
use Rattle.vlog_text.specs.Machine as modules
use Rattle.vlog_text.specs.Machine.{vlog_machine}
use Rattle.vlog_text.specs.Texts as module_texts
use Rattle.vlog_text.specs.Trees.{VerilogModule}

-- an event of a program: one truth value per given signal, and it meets the program's relations
pub record IsEvent (p : Program) (event : List Bool) : Type 0 where
  pub wide : length event ≡ given_count p
  pub meets : MeetsAll p.relations event

-- items, of which each event is one of the program's
abbrev pub AreItems : Program → List Item → Type 0
AreItems p items = EachEvent (IsEvent p) items

-- what is seen of an instant from outside: which outgoing signals are present, in order, and whether the program pauses
pub record Seen : Type 0 where
  pub outputs : List Bool
  pub paused : Bool

-- of an answer of the semantics: code 1 is a pause
abbrev pub seen_of : Answer → Seen
seen_of a = record { outputs = a.outputs; paused = a.code == 1 }

-- The compiler-correctness theorem: over all items of a program its reactions are constructive, and of a machine is
-- seen what is seen of their answers: the machine has a run, and each of its runs shows this.
pub record Keeps {X : Type 0} (M : Machine X) (see : X → Seen) (p : Program) : Type 0 where
  pub runs : (items : List Item) → AreItems p items
      → (answers : List Answer) × (run_of p items ≡ Some answers) × Shows M see M.start items (map seen_of answers)

-- ---- BLIF texts

-- The words of the outgoing signals in a circuit. One that is given too is written with `.out` after its name.
abbrev pub outgoing_words : Program → List (List ℕ)
outgoing_words p = map (output_word (given_names p)) (outgoing_names p)

-- what is seen of a circuit: the values of the words of the outgoing signals, and that of `_paused`
abbrev pub circuit_seen : Program → (List ℕ → Bool) → Seen
circuit_seen p v = record { outputs = map v (outgoing_words p); paused = v paused_word }

-- A text has a reading by the BLIF profile that keeps what the program means. Its name is the program's, its inputs are
-- the given signals, and its outputs are the outgoing signals and then `_paused`, in declared order. Any two of its
-- runs agree on every driven name.
pub record TextKeeps (text : List ℕ) (p : Program) : Type 0 where
  pub circuit : Circuit
  pub reads : reading text ≡ Ok circuit
  pub name : circuit.name ≡ p.name
  pub inputs : circuit.inputs ≡ given_names p
  pub outputs : circuit.outputs ≡ outgoing_words p ++ paused_word ∷ []
  pub keeps : Keeps (circuit_machine circuit) (circuit_seen p) p
  pub one_run : (items : List Item) → AreItems p items
      → (us vs : List (List ℕ → Bool)) → IsCircuitRun circuit items us → IsCircuitRun circuit items vs
      → map (λ u. map u (driven_names circuit)) us ≡ map (λ v. map v (driven_names circuit)) vs

-- ---- C texts

-- what is seen of a call: the outputs in declared order, and the value returned
abbrev pub call_seen : CProgram → Memory → Seen
call_seen c memory = record { outputs = map memory (outputs_of c); paused = value_of memory c.answer }

-- A text describes a program of the C subset with one variable for each given and each outgoing signal, in declared
-- order, which keeps what the program means.
pub record CTextKeeps (text : List ℕ) (p : Program) : Type 0 where
  pub program : CProgram
  pub describes : Describes text program
  pub inputs : inputs_of program ≡ map (λ name. codes "I_" ++ name) (given_names p)
  pub outputs : outputs_of program ≡ map (λ name. codes "O_" ++ name) (outgoing_names p)
  pub keeps : Keeps (program_machine program) (call_seen program) p

-- ---- Verilog texts

-- the names of the outputs of the outgoing signals
abbrev pub output_wires : Program → List (List ℕ)
output_wires p = map (λ name. codes "o_" ++ name) (outgoing_names p)

-- what is seen of an instant of a module: the values of those outputs, and that of `paused`
abbrev pub module_seen : Program → (List ℕ → Bool) → Seen
module_seen p v = record { outputs = map v (output_wires p); paused = v (codes "paused") }

-- A text describes a module with the program's name that keeps what the program means. Its inputs are the clock and
-- then one for each given signal. Its outputs are one for each outgoing signal and then `paused`. All are in declared
-- order. Any two of its runs agree on every driven name.
pub record VerilogTextKeeps (text : List ℕ) (p : Program) : Type 0 where
  pub design : VerilogModule
  pub describes : module_texts.Describes text design
  pub name : design.name ≡ codes "m_" ++ p.name
  pub inputs : design.inputs ≡ codes "clk" ∷ map (λ name. codes "i_" ++ name) (given_names p)
  pub outputs : design.outputs ≡ output_wires p ++ codes "paused" ∷ []
  pub keeps : Keeps (vlog_machine design) (module_seen p) p
  pub one_run : (items : List Item) → AreItems p items → (us vs : List (List ℕ → Bool))
      → machines.IsRun (vlog_machine design) items us → machines.IsRun (vlog_machine design) items vs
      → map (λ u. map u (modules.driven_names design)) us ≡ map (λ v. map v (modules.driven_names design)) vs
