-- To believe: what it means that a netlist does what a kernel program means.
use Rattle.std.specs.Prelude.{◌≡◌, List, map, Some, ◌==◌}
use Rattle.base_types.specs.Items.{Item}
use Rattle.est_kernel.specs.Plain.{Program, given_names, outgoing_names}
use Rattle.est_kernel.specs.Reactions.{Answer, run_of}
use Rattle.net_ir.specs.Netlists.{Netlist, output_names}
use Rattle.net_ir.specs.Runs.{Shown, net_run}
use Rattle.cec_compile.specs.Meaning.{AreItems}

-- what is seen of an answer of the semantics: code 1 is a pause
abbrev pub net_seen : Answer → Shown
net_seen a = record { outputs = a.outputs; paused = a.code == 1 }

-- Over every list of items the program's reactions are constructive, and a netlist shows in each instant
-- their outgoing signals, and `paused` exactly where the completion code is 1.
pub record NetKeeps (net : Netlist) (p : Program) : Type 0 where
  pub name : net.name ≡ p.name
  pub inputs : net.inputs ≡ given_names p
  pub outputs : output_names net ≡ outgoing_names p
  pub runs : (items : List Item) → AreItems p items →
      (answers : List Answer) × (run_of p items ≡ Some answers) × (net_run net items ≡ map net_seen answers)
