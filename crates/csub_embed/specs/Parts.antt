-- Inner: the parts of a net's embedded text, section by section.
use Rattle.std.specs.Prelude.{ℕ, Bool, true, false, List, [], ◌∷◌, ◌++◌, map, flat_map, codes}
use Rattle.net_ir.specs.Netlists.{Netlist}
use Rattle.net_ir.specs.Numbered.{numbered}
use Rattle.csub_embed.specs.Trees.{Local}
use Rattle.csub_embed.specs.Grammar.{self_word, in_word, out_word}
use Rattle.csub_embed.specs.Texts.{lines_before, lines_after}
use Rattle.csub_embed.specs.Written.{state_word, net_state, gate_local, next_local, running_local, output_store}
use Rattle.csub_embed.specs.Written.{state_store, net_ignored, running_word, comment, open_text, member_line}
use Rattle.csub_embed.specs.Written.{unused_line, close_text, prototype_text, reset_head, body_start, ignored_line}
use Rattle.csub_embed.specs.Written.{untouched_line, first_line, react_head, local_line, store_line, return_lines}
use Rattle.csub_embed.specs.declared.layout.EmbedLayout.{EmbedLayout}
use Rattle.csub_embed.specs.declared.layout.EmbedFile.{EmbedFile}
use Rattle.csub_embed.specs.declared.layout.EmbedFile.TheVariants as files
use Rattle.csub_embed.specs.declared.parts.EmbedSection.{EmbedSection}
use Rattle.csub_embed.specs.declared.parts.EmbedSection.TheVariants.{FirstLines, StatesHead, States, StatesEnd}
use Rattle.csub_embed.specs.declared.parts.EmbedSection.TheVariants.{Inputs, InputsEnd, Outputs, OutputsEnd}
use Rattle.csub_embed.specs.declared.parts.EmbedSection.TheVariants.{Prototypes, ResetHead, Resets, ReactHead}
use Rattle.csub_embed.specs.declared.parts.EmbedSection.TheVariants.{Gates, Nexts, Running, Shown, Kept, Return}
use Rattle.csub_embed.specs.declared.parts.EmbedSection.TheVariants.{LastLines}
use Rattle.csub_embed.specs.declared.parts.TheConstants.{HEADER, DECLARATIONS, DEFINITIONS}

-- the sections of a file of the component
abbrev pub sections_of : EmbedFile → List EmbedSection
sections_of files.Header = HEADER
sections_of files.Declarations = DECLARATIONS
sections_of files.Definitions = DEFINITIONS

abbrev pub first_text : EmbedFile → List ℕ → List ℕ
first_text file name = lines_before file name ++ comment name

abbrev pub states_end : Netlist → List ℕ
states_end net = unused_line net.latches ++ (close_text (net.name ++ codes "_t") ++ open_text)

abbrev pub inputs_end : Netlist → List ℕ
inputs_end net = unused_line net.inputs ++ (close_text (net.name ++ codes "_inputs_t") ++ open_text)

abbrev pub outputs_end : Netlist → List ℕ
outputs_end net = unused_line net.outputs ++ close_text (net.name ++ codes "_outputs_t")

-- the inputs where nothing reads one, and the outputs where there are none
abbrev pub unread_line : Bool → List ℕ
unread_line true = []
unread_line false = ignored_line in_word

abbrev pub unshown_line : {X : Type 0} → List X → List ℕ
unshown_line [] = ignored_line out_word
unshown_line (x ∷ xs) = []

abbrev pub reset_text : EmbedFile → List ℕ → List ℕ
reset_text file name = codes "\n" ++ (reset_head file name ++ body_start)

abbrev pub react_text : EmbedFile → Netlist → List ℕ
react_text file net =
    untouched_line net.latches ++ (codes "}\n\n" ++ (react_head file net.name ++ (body_start
    ++ flat_map ignored_line (net_ignored net))))

-- the parts of a section
abbrev pub parts_in : EmbedLayout → Netlist → EmbedSection → List (List ℕ)
parts_in layout net FirstLines = first_text layout.file net.name ∷ []
parts_in layout net StatesHead = open_text ∷ []
parts_in layout net States = numbered (λ j latch. member_line layout.packed (state_word j)) 0 net.latches
parts_in layout net StatesEnd = states_end net ∷ []
parts_in layout net Inputs = map (λ name. member_line false name) net.inputs
parts_in layout net InputsEnd = inputs_end net ∷ []
parts_in layout net Outputs = map (λ o. member_line false o.name) net.outputs
parts_in layout net OutputsEnd = outputs_end net ∷ []
parts_in layout net Prototypes = prototype_text net.name ∷ []
parts_in layout net ResetHead = reset_text layout.file net.name ∷ []
parts_in layout net Resets = numbered (λ j latch. first_line (net_state j latch)) 0 net.latches
parts_in layout net ReactHead = react_text layout.file net ∷ []
parts_in layout net Gates = numbered (λ k gate. local_line (gate_local net k gate)) 0 net.gates
parts_in layout net Nexts = numbered (λ j latch. local_line (next_local net j latch)) 0 net.latches
parts_in layout net Running = local_line (running_local net) ∷ []
parts_in layout net Shown = map (λ o. store_line out_word (output_store net o)) net.outputs
parts_in layout net Kept = numbered (λ j latch. store_line self_word (state_store j latch)) 0 net.latches
parts_in layout net Return = return_lines (Local running_word) ∷ []
parts_in layout net LastLines = lines_after layout.file ∷ []
