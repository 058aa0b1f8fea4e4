-- Inner: the guarded text of a compiled program, and what it is written of.
use Rattle.std.specs.Prelude.{◌≡◌, ℕ, List, Option}
use Rattle.base_types.specs.declared.indices.WireId.{WireId}
use Rattle.grc_regions.specs.Regions.{AreRegions, HeadsAreFree}
use Rattle.net_ir.specs.Runs.{netlist_of}
use Rattle.csub_guard_blocks.specs.Blocks.{guarded_text}
use Rattle.csub_guard_blocks.specs.Owners.{owners}
use Rattle.csub_guard_writer.specs.Regions.{region_by}
use Rattle.csub_guard_writer_laws.specs.Guarded.{GuardedRuns}
use Rattle.cec_compile.specs.MadeNets.{IsMade}
use Rattle.cec_compile.specs.declared.passes.Compiled.{Compiled}
use Rattle.cec_compile.specs.declared.forms.TextForm.TheVariants.{Guarded}
use Rattle.cec_compile.specs.declared.guarded_texts.GuardedMade.{GuardedMade}

-- the text is written of the netlist by the regions of the graph, and means it
pub record IsGuardedBy (c : Compiled) (text : List ℕ) : Type 0 where
  pub regions : List (Option WireId)
  pub are : AreRegions c.graph regions
  pub free : HeadsAreFree regions
  pub spelled : text ≡ guarded_text (netlist_of c.net)
      (owners (netlist_of c.net) (region_by (netlist_of c.net) regions))
  pub runs : GuardedRuns text (netlist_of c.net) regions

-- a text is written of the netlist by regions of its gates, and means it
pub record MeansGuarded (text : List ℕ) (g : GuardedMade) : Type 0 where
  pub regions : List (Option WireId)
  pub spelled : text ≡ guarded_text (netlist_of g.made.net)
      (owners (netlist_of g.made.net) (region_by (netlist_of g.made.net) regions))
  pub runs : GuardedRuns text (netlist_of g.made.net) regions

-- the bytes stand for the program, and the text means its netlist
pub record IsMadeGuarded (bytes : List ℕ) (main : Option (List ℕ)) (g : GuardedMade) : Type 0 where
  pub made : IsMade Guarded bytes main g.made
  pub means : MeansGuarded g.text.items g
