use Rattle.std.proofs.Common.{subst}
use Rattle.net_ir.specs.Runs.{netlist_of}
use Rattle.cec_opt_sources.specs.LightNets.{IsSmall}
use Rattle.cec_opt_sources.proofs.light.light_of.Goals as goal

pub returns : goal.returns
returns c = λ p h.
    record {
      plain = netlist_of c.in_ok-plain.plain;
      small = subst (λ q. IsSmall q.relations (netlist_of c.args.compiled.net) (netlist_of c.in_ok-plain.plain)) h.program c.in_ok-plain.ensures;
      encoded = netlist_of c.in_ok-encoded.encoded;
      encoded_small = c.in_ok-encoded.ensures p h;
      is = c.lighter.ensures;
    }
