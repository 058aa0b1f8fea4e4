-- To believe: what a task writes of a text, or of a source.
use Rattle.std.specs.Prelude.{◌≡◌, ◌⊎◌, ℕ, ◌+◌, List, [], ◌∷◌, ◌++◌, length, codes, decimal, Option}
use Rattle.std.specs.List.{concat}
use Rattle.net_ir.specs.Netlists.{Netlist}
use Rattle.net_ir.specs.Runs.{netlist_of}
use Rattle.blif_text.specs.Written as blif_texts
use Rattle.csub_text.specs.Written as c_texts
use Rattle.vlog_text.specs.Written as verilog_texts
use Rattle.cec_compile.specs.declared.passes.Compiled.{Compiled}
use Rattle.cec_compile.specs.declared.cycles.Cycle.{Cycle}
use Rattle.cec_cycles.specs.Constructive.{HasCycle, StandsForConstructiveBlif, StandsForConstructiveC}
use Rattle.cec_cycles.specs.Constructive.{StandsForConstructiveNet, StandsForConstructiveVerilog}
use Rattle.cec_cycles.specs.Counted.{HasCountedCycles}
use Rattle.cec_opt_embed.specs.Sources.{StandsForEmbedded}
use Rattle.cec_opt_embed.specs.Texts.{EmbedKeeps}
use Rattle.cec_opt_reset.specs.Sources.{StandsForReset}
use Rattle.cec_opt_reset.specs.Texts.{ResetKeeps}
use Rattle.cec_opt_sources.specs.LightNets.{IsLightNetOf, IsLightSource}
use Rattle.cec_opt_sources.specs.SmallTexts.{StandsForSmallBlif, StandsForSmallC, StandsForSmallVerilog}
use Rattle.cec_opt_texts.specs.Alike.{BlifKeeps, CKeeps, VerilogKeeps}
use Rattle.cec_opt_texts.specs.Optimized.{IsSmallFor, IsSmallNetOf, IsTextNet}
use Rattle.cec_opt_texts.specs.Related.{GivenRelation}
use Rattle.blif_net.specs.Depths.{depth_of}
use Rattle.cec_opt_commands.specs.declared.words.Form.TheVariants as forms
use Rattle.cec_opt_commands.specs.Words.{Task, Write, Embed, Reset, Check}

-- The text that is written keeps what the text means that was read, where its inputs meet the relations (`Keeps`). It
-- is that of a netlist that is not larger than its circuit's, and in which nothing is left to simplify.
pub record IsOptimized (Keeps : List ℕ → List GivenRelation → List ℕ → Type 0) (write : Netlist → List ℕ)
    (text : List ℕ) (given : List GivenRelation) (written : List ℕ) : Type 0 where
  pub keeps : Keeps text given written
  pub net : Netlist
  pub small : IsSmallNetOf text given net
  pub spelled : written ≡ write net

-- The name of a netlist, and how many inputs, outputs, latches and gates it has, and how deep they stand. The last
-- output of its texts is `_paused`.
abbrev pub counts_line : Netlist → List ℕ
counts_line net = concat (net.name ∷ codes ": " ∷ decimal (length net.inputs) ∷ codes " inputs, "
    ∷ decimal (length net.outputs + 1) ∷ codes " outputs, " ∷ decimal (length net.latches) ∷ codes " latches, "
    ∷ decimal (length net.gates) ∷ codes " gates, depth " ∷ decimal (depth_of net) ∷ codes "\n" ∷ [])

-- the line of a netlist, and that of one that replaces it where the inputs meet the given relations, and is not larger
pub record TellsNets (given : List GivenRelation) (net : Netlist) (lines : List ℕ) : Type 0 where
  pub small : Netlist
  pub replaces : IsSmallFor given net small
  pub is : lines ≡ counts_line net ++ counts_line small

-- the same of the netlist of a text
pub record TellsText (text : List ℕ) (given : List GivenRelation) (lines : List ℕ) : Type 0 where
  pub net : Netlist
  pub of_text : IsTextNet text net
  pub tells : TellsNets given net lines

-- Embedded C keeps what the text means that was read, over calls on any number of instances of the component of this
-- name. It is that of the text's optimized netlist (`EmbedKeeps`). Verilog with a reset keeps it from each reset on,
-- with the names that are asked for (`ResetKeeps`). Where relations are given, only events that meet them count.
abbrev pub IsAnswer : Task → (text : List ℕ) → List GivenRelation → (written : List ℕ) → Type 0
IsAnswer (Write forms.Blif) text given written = IsOptimized BlifKeeps blif_texts.written text given written
IsAnswer (Write forms.C) text given written = IsOptimized CKeeps c_texts.written text given written
IsAnswer (Write forms.Verilog) text given written = IsOptimized VerilogKeeps verilog_texts.written text given written
IsAnswer (Embed component layout) text given written = EmbedKeeps text given component layout written
IsAnswer (Reset options coding) text given written = ResetKeeps text given options written
IsAnswer Check text given written = TellsText text given written

-- ---- sources

-- The text that is written keeps what the program of the source means (`Stands`), and it is that of the lighter one of
-- two netlists of the source.
pub record IsLightText (Stands : List ℕ → Option (List ℕ) → List ℕ → Type 0) (write : Netlist → List ℕ)
    (source : List ℕ) (main : Option (List ℕ)) (written : List ℕ) : Type 0 where
  pub stands : Stands source main written
  pub net : Netlist
  pub light : IsLightNetOf source main net
  pub spelled : written ≡ write net

-- the line of the netlist of a compiled source, and that of the lighter one of it
pub record TellsSource (source : List ℕ) (main : Option (List ℕ)) (lines : List ℕ) : Type 0 where
  pub compiled : Compiled
  pub net : Netlist
  pub light : IsLightSource source main compiled net
  pub is : lines ≡ counts_line (netlist_of compiled.net) ++ counts_line net

-- The dependencies of the source have a cycle. The text that is written keeps what the program of the source means
-- (`Stands`), and it is that of a netlist.
pub record IsCyclicText (Stands : List ℕ → Option (List ℕ) → List ℕ → Type 0) (write : Netlist → List ℕ)
    (source : List ℕ) (main : Option (List ℕ)) (written : List ℕ) : Type 0 where
  pub stands : Stands source main written
  pub cycle : Cycle
  pub has_cycle : HasCycle source main cycle
  pub net : Netlist
  pub spelled : written ≡ write net

-- The line of a constructive source with a cycle, with the numbers of the components in which the cycles lie and of the
-- wires that cut them; and the line of its netlist.
abbrev pub constructive_lines : (components cuts : ℕ) → Netlist → List ℕ
constructive_lines components cuts net = concat (net.name ∷ codes ": constructive, " ∷ decimal components
    ∷ codes " components, " ∷ decimal cuts ∷ codes " cuts\n" ∷ counts_line net ∷ [])

-- the lines of a netlist, where the cycles of such a source are counted
pub record IsCyclicLines (source : List ℕ) (main : Option (List ℕ)) (net : Netlist) (lines : List ℕ) : Type 0 where
  pub components : ℕ
  pub cuts : ℕ
  pub counted : HasCountedCycles source main components cuts
  pub is : lines ≡ constructive_lines components cuts net

-- the lines of a netlist that keeps what the program of such a source means
pub record TellsCyclic (source : List ℕ) (main : Option (List ℕ)) (lines : List ℕ) : Type 0 where
  pub net : Netlist
  pub stands : StandsForConstructiveNet source main net
  pub cycle : Cycle
  pub has_cycle : HasCycle source main cycle
  pub is_lines : IsCyclicLines source main net lines

abbrev pub TellsAny : List ℕ → Option (List ℕ) → List ℕ → Type 0
TellsAny source main lines = TellsSource source main lines ⊎ TellsCyclic source main lines

-- Embedded C keeps what the program of the source means, over calls on any number of instances of the component of this
-- name. It is that of the netlist of the source, whose dependencies may have a cycle (`StandsForEmbedded`). So is
-- Verilog with a reset, which keeps it from each reset on (`StandsForReset`).
abbrev pub IsSourceAnswer : Task → (source : List ℕ) → (main : Option (List ℕ)) → (written : List ℕ) → Type 0
IsSourceAnswer (Write forms.Blif) source main written =
    IsLightText StandsForSmallBlif blif_texts.written source main written
    ⊎ IsCyclicText StandsForConstructiveBlif blif_texts.written source main written
IsSourceAnswer (Write forms.C) source main written =
    IsLightText StandsForSmallC c_texts.written source main written
    ⊎ IsCyclicText StandsForConstructiveC c_texts.written source main written
IsSourceAnswer (Write forms.Verilog) source main written =
    IsLightText StandsForSmallVerilog verilog_texts.written source main written
    ⊎ IsCyclicText StandsForConstructiveVerilog verilog_texts.written source main written
IsSourceAnswer (Embed component layout) source main written = StandsForEmbedded source main component layout written
IsSourceAnswer (Reset options coding) source main written = StandsForReset source main coding options written
IsSourceAnswer Check source main written = TellsAny source main written
