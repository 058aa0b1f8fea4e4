use Rattle.std.proofs.Common.{subst}
use Rattle.std.specs.Prelude.{option_map}
use Rattle.net_ir.specs.Runs.{netlist_of}
use Rattle.cec_compile.specs.WireGroups.{SharesWires, is_shared}
use Rattle.cec_opt_sources.proofs.LightNets.{light_stands}
use Rattle.cec_opt_sources.proofs.light.light_net.Goals as goal

pub light_of-requires-clause-stands : goal.light_of-requires-clause-stands
light_of-requires-clause-stands g c = let s = c.in_ok-compiled.ensures.compiles in (s.program, s.compiled)

pub returns-clause-light : goal.returns-clause-light
returns-clause-light g c =
    let s = c.in_ok-compiled.ensures.compiles in (
      c.in_ok-compiled.compiled,
      record {
        stands = s;
        shares = subst (λ q. SharesWires q (is_shared c.in_ok-compiled.compiled.graph)) s.compiled.program c.in_ok-compiled.ensures.shares;
        light = c.in_ok-net.ensures s.program s.compiled;
      },
    )

pub returns-clause-compiles : goal.returns-clause-compiles
returns-clause-compiles g c =
    let is = returns-clause-light g c in
    light_stands c.args.text.now (option_map (λ m. m.now) c.args.main) is.0 (netlist_of c.in_ok-net.net) is.1
