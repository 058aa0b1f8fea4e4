-- Inner: the parts of a net's text, section by section.
use Rattle.std.specs.Prelude.{ℕ, List, [], ◌∷◌, ◌++◌, map, codes}
use Rattle.net_ir.specs.Netlists.{Netlist}
use Rattle.net_ir.specs.Numbered.{numbered}
use Rattle.blif_text.specs.Statements.{Model, End}
use Rattle.blif_text.specs.Circuits.{CircuitLatch, Table}
use Rattle.blif_text.specs.Spelled.{line_text, spelled, text_of, table_statements, latch_statement}
use Rattle.blif_text.specs.Written.{output_word, paused_word, net_word, copy_table, input_table, gate_table}
use Rattle.blif_text.specs.Written.{output_table, net_latch}
use Rattle.blif_text.specs.declared.parts.BlifSection.{BlifSection}
use Rattle.blif_text.specs.declared.parts.BlifSection.TheVariants.{FirstLines, InputNames, InputsEnd, OutputNames}
use Rattle.blif_text.specs.declared.parts.BlifSection.TheVariants.{OutputsEnd, Latches, Inputs, Gates, Outputs}
use Rattle.blif_text.specs.declared.parts.BlifSection.TheVariants.{LastLines}

-- a space and a word
abbrev pub spaced : List ℕ → List ℕ
spaced word = 32 ∷ word

abbrev pub latch_text : CircuitLatch → List ℕ
latch_text latch = line_text (spelled (latch_statement latch))

abbrev pub table_text : Table → List ℕ
table_text table = text_of (table_statements table)

-- the table of `_paused` and the end
abbrev pub last_lines : Netlist → List ℕ
last_lines net = text_of (table_statements (copy_table (net_word net net.paused) paused_word) ++ End ∷ [])

-- the last output and the end of the line
abbrev pub outputs_end : List ℕ
outputs_end = codes " _paused" ++ 10 ∷ []

-- the end of the line of the inputs, where there are any, and the beginning of that of the outputs
abbrev pub inputs_end : List (List ℕ) → List ℕ
inputs_end [] = codes ".outputs"
inputs_end (name ∷ names) = 10 ∷ codes ".outputs"

-- the line of the model, and the beginning of that of the inputs, where there are any
abbrev pub inputs_start : List (List ℕ) → List ℕ
inputs_start [] = []
inputs_start (name ∷ names) = codes ".inputs"

abbrev pub first_lines : Netlist → List ℕ
first_lines net = text_of (Model net.name ∷ []) ++ inputs_start net.inputs

-- the parts of a section
abbrev pub parts_in : Netlist → BlifSection → List (List ℕ)
parts_in net FirstLines = first_lines net ∷ []
parts_in net InputNames = map spaced net.inputs
parts_in net InputsEnd = inputs_end net.inputs ∷ []
parts_in net OutputNames = map (λ o. spaced (output_word net.inputs o.name)) net.outputs
parts_in net OutputsEnd = outputs_end ∷ []
parts_in net Latches = numbered (λ j latch. latch_text (net_latch net j latch)) 0 net.latches
parts_in net Inputs = numbered (λ j name. table_text (input_table j name)) 0 net.inputs
parts_in net Gates = numbered (λ k gate. table_text (gate_table net k gate)) 0 net.gates
parts_in net Outputs = map (λ o. table_text (output_table net o)) net.outputs
parts_in net LastLines = last_lines net ∷ []
