-- Inner: checks that never raise the alarm.
use Rattle.std.specs.Prelude.{List, ⊤}
use Rattle.base_types.specs.Items.{Item}
use Rattle.est_kernel.specs.Plain.{Program}
use Rattle.net_ir.specs.Netlists.{Netlist}
use Rattle.net_loops.specs.CheckedNets.{IsQuietOver}
use Rattle.net_search.specs.declared.decisions.Decision.{Decision}
use Rattle.net_search.specs.declared.decisions.Decision.TheVariants.{Never, Reached, Unknown}
use Rattle.cec_compile.specs.Meaning.{AreItems}

-- over all items whose events meet the program's relations the check is quiet in each instant
abbrev pub NeverAlarms : Program → Netlist → Type 0
NeverAlarms p check = (items : List Item) → AreItems p items → IsQuietOver check items

-- a decision about the alarm of a check
abbrev pub IsAlarmDecision : Program → Netlist → Decision → Type 0
IsAlarmDecision p check Never = NeverAlarms p check
IsAlarmDecision p check (Reached events) = ⊤
IsAlarmDecision p check (Unknown length) = ⊤
