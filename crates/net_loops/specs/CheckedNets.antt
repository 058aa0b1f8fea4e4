-- Contract: a netlist of a program, and the netlist that checks it.
use Rattle.std.specs.Prelude.{◌≡◌, ◌==◌, false, List, [], ◌∷◌, All, Some, length, map}
use Rattle.base_types.specs.Items.{Item, EachEvent}
use Rattle.est_kernel.specs.Plain.{Program, given_count, given_names, outgoing_names}
use Rattle.est_kernel.specs.Reactions.{Answer, run_of}
use Rattle.net_ir.specs.Netlists.{Netlist, output_names}
use Rattle.net_ir.specs.Runs.{Shown, net_run}

-- a check raises no alarm in any instant
abbrev pub IsQuietOver : Netlist → List Item → Type 0
IsQuietOver check items = All (λ s. s.outputs ≡ false ∷ []) (net_run check items)

-- what a netlist shows of an answer of the semantics: code 1 is a pause
abbrev pub shown_of : Answer → Shown
shown_of a = record { outputs = a.outputs; paused = a.code == 1 }

-- A netlist has the name and the interface of a program. Its check has the same inputs, and one output. Over each list
-- of items with a value for each given signal, events and resets, in no instant of which the check raises the alarm,
-- the program's reactions are constructive, and the netlist shows their answers.
pub record IsCheckedNet (p : Program) (net check : Netlist) : Type 0 where
  pub name : net.name ≡ p.name
  pub inputs : net.inputs ≡ given_names p
  pub outputs : output_names net ≡ outgoing_names p
  pub check_inputs : check.inputs ≡ given_names p
  pub one : length check.outputs ≡ 1
  pub runs : (items : List Item) → EachEvent (λ event. length event ≡ given_count p) items → IsQuietOver check items
      → (answers : List Answer) × (run_of p items ≡ Some answers) × (net_run net items ≡ map shown_of answers)
