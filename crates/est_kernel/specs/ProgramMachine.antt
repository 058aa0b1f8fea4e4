-- Contract: a kernel program as a machine. It has an instant only where the reaction is constructive.
use Rattle.std.specs.Prelude.{◌≡◌, Some}
use Rattle.est_kernel.specs.Plain.{Program, interface_of}
use Rattle.est_kernel.specs.Reactions.{Reaction, react}
use Rattle.est_kernel.specs.Terms.{Term}
use Rattle.base_machines.specs.Machines.{Machine}

-- its states are terms, what is so in an instant is the reaction, and after it is what that leaves
abbrev pub program_machine : Program → Machine Reaction
program_machine p = record {
  State = Term;
  start = p.body;
  instant = λ r event x. react (interface_of p) r event ≡ Some x;
  next = λ r event x. x.residual;
}
