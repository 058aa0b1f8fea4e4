use Rattle.std.proofs.Common.{inl, inr}
use Rattle.std.specs.Prelude.{option_map}
use Rattle.est_kernel.specs.Plain.{program_of}
use Rattle.net_ir.specs.Runs.{netlist_of}
use Rattle.cec_cycles.proofs.Keeping.{coded-stands, made-net}
use Rattle.cec_cycles.proofs.sources.constructive_net.Goals as goal

pub returns-in-Ok-clause-compiles : goal.returns-in-Ok-clause-compiles
returns-in-Ok-clause-compiles g c =
    coded-stands c.args.coding c.args.text.now (option_map (λ m. m.now) c.args.main) (netlist_of c.in-Ok.net) c.in-Ok.ensures.coded c.in-Ok.ensures.compiles

pub returns-in-Ok-clause-made : goal.returns-in-Ok-clause-made
returns-in-Ok-clause-made g c = inl c.in-Ok.ensures.coded

pub returns-in_ok-made-in-Err-clause-compiles : goal.returns-in_ok-made-in-Err-clause-compiles
returns-in_ok-made-in-Err-clause-compiles g c =
    let made = c.in_ok-made-in-Err.made in
    made-net c.args.text.now (option_map (λ m. m.now) c.args.main) (program_of made.program) (netlist_of made.net) c.in_ok-made-in-Err.ensures.compiles

pub returns-in_ok-made-in-Err-clause-made : goal.returns-in_ok-made-in-Err-clause-made
returns-in_ok-made-in-Err-clause-made g c = inr c.in_ok-made-in-Err.ensures.cyclic
