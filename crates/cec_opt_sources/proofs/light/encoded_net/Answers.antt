use Rattle.std.proofs.Common.{subst}
use Rattle.std.specs.Prelude.{option_map}
use Rattle.net_ir.specs.Runs.{netlist_of}
use Rattle.cec_compile.specs.WireGroups.{SharesWires, is_shared}
use Rattle.cec_opt_sources.proofs.LightNets.{encoded_stands}
use Rattle.cec_opt_sources.proofs.light.encoded_net.Goals as goal

pub encoded_small-requires-clause-stands : goal.encoded_small-requires-clause-stands
encoded_small-requires-clause-stands g c = let s = c.in_ok-compiled.ensures.compiles in (s.program, s.compiled)

pub returns-clause-encoded : goal.returns-clause-encoded
returns-clause-encoded g c =
    let s = c.in_ok-compiled.ensures.compiles in
    record {
      compiled = c.in_ok-compiled.compiled;
      stands = s;
      shares = subst (λ q. SharesWires q (is_shared c.in_ok-compiled.compiled.graph)) s.compiled.program c.in_ok-compiled.ensures.shares;
      small = c.in_ok-net.ensures s.program s.compiled;
    }

pub returns-clause-compiles : goal.returns-clause-compiles
returns-clause-compiles g c =
    encoded_stands c.args.text.now (option_map (λ m. m.now) c.args.main) (netlist_of c.in_ok-net.net) (returns-clause-encoded g c)
