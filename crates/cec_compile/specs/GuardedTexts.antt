-- To believe: what the guarded C text of a source is.
use Rattle.std.specs.Prelude.{◌≡◌, ℕ, false, List, ◌++◌, map, Option, codes}
use Rattle.base_types.specs.declared.indices.WireId.{WireId}
use Rattle.est_kernel.specs.Plain.{Program, given_names, outgoing_names}
use Rattle.grc_regions.specs.Regions.{AreRegions, HeadsAreFree}
use Rattle.net_ir.specs.Runs.{netlist_of}
use Rattle.csub_text.specs.Machine.{value_of}
use Rattle.csub_guard.specs.Machine.{Counted, guarded_machine, inputs_of, outputs_of}
use Rattle.csub_guard.specs.Texts.{Describes}
use Rattle.csub_guard.specs.Trees as guarded
use Rattle.csub_guard_blocks.specs.Blocks.{guarded_text}
use Rattle.csub_guard_blocks.specs.Owners.{owners}
use Rattle.csub_guard_writer.specs.Regions.{region_by}
use Rattle.csub_guard_writer_laws.specs.Guarded.{GuardedRuns}
use Rattle.est_front.specs.Sources.{StandsFor}
use Rattle.cec_compile.specs.Compiling.{StandsForNet}
use Rattle.cec_compile.specs.Meaning.{Keeps, Seen}
use Rattle.cec_compile.specs.Refusals.{Compiles}
use Rattle.cec_compile.specs.WireGroups.{is_shared}
use Rattle.cec_compile.specs.declared.passes.Compiled.{Compiled}

-- what is seen of a call: the outputs in declared order, and the value returned
abbrev pub guarded_seen : guarded.Program → Counted → Seen
guarded_seen c behind = record {
  outputs = map behind.memory (outputs_of c);
  paused = value_of behind.memory c.answer;
}

-- A text describes a guarded program with one variable for each given and each outgoing signal, in declared order,
-- which keeps what the program means.
pub record GuardedTextKeeps (text : List ℕ) (p : Program) : Type 0 where
  pub program : guarded.Program
  pub describes : Describes text program
  pub inputs : inputs_of program ≡ map (λ name. codes "I_" ++ name) (given_names p)
  pub outputs : outputs_of program ≡ map (λ name. codes "O_" ++ name) (outgoing_names p)
  pub keeps : Keeps (guarded_machine program) (guarded_seen program) p

-- The bytes stand for the program of the text.
pub record StandsForGuarded (bytes : List ℕ) (main : Option (List ℕ)) (written : List ℕ) : Type 0 where
  pub program : Program
  pub source : StandsFor bytes main program
  pub compiles : Compiles program
  pub keeps : GuardedTextKeeps written program

-- The text is that of a compiled program's netlist, from the same bytes, whose wires are not shared, and whose gates
-- lie in the regions of the program's graph: the gates of a head that stand one after another are a block. A call runs
-- the assignments of the text of that netlist in the C subset, except for the gates that it skips.
pub record IsGuardedOf (bytes : List ℕ) (main : Option (List ℕ)) (written : List ℕ) : Type 0 where
  pub made : Compiled
  pub compiled : StandsForNet bytes main made
  pub own : is_shared made.graph ≡ false
  pub regions : List (Option WireId)
  pub are : AreRegions made.graph regions
  pub free : HeadsAreFree regions
  pub text : written ≡ guarded_text (netlist_of made.net)
      (owners (netlist_of made.net) (region_by (netlist_of made.net) regions))
  pub runs : GuardedRuns written (netlist_of made.net) regions
