use Rattle.std.proofs.Common.{◌≡◌, take}
use Rattle.est_kernel.specs.Plain.{program_of}
use Rattle.net_gen.proofs.names.input_names.Given as goal

abbrev pub invariant-loop-signal : goal.invariant-loop-signal
invariant-loop-signal l = l.names.items ≡ take l.signal (program_of l.program).signals
