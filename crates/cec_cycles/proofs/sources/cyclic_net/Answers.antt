use Rattle.std.proofs.Common.{inr}
use Rattle.std.specs.Prelude.{option_map}
use Rattle.est_kernel.specs.Plain.{program_of}
use Rattle.net_ir.specs.Runs.{netlist_of}
use Rattle.cec_cycles.proofs.Keeping.{made-net}
use Rattle.cec_cycles.proofs.sources.cyclic_net.Goals as goal

pub returns-clause-compiles : goal.returns-clause-compiles
returns-clause-compiles c =
    let made = c.in_ok-made.made in
    made-net c.args.text.now (option_map (λ m. m.now) c.args.main) (program_of made.program) (netlist_of made.net) c.in_ok-made.ensures.compiles

pub returns-clause-made : goal.returns-clause-made
returns-clause-made c = inr (c.args.cycle, c.requires.cyclic)
