use Rattle.std.proofs.Common.{ap, subst, ◌∙◌}
use Rattle.est_kernel.specs.Plain.{program_of}
use Rattle.net_ir.specs.Runs.{netlist_of}
use Rattle.cec_opt_sources.specs.LightNets.{IsSmall}
use Rattle.cec_opt_sources.proofs.light.encoded_small.Goals as goal

pub returns : goal.returns
returns c = λ p h.
    let made = c.in_ok-made.made in
    record {
      coded = netlist_of made.net;
      codes_state = c.in_ok-made.ensures.net p h;
      small = subst (λ q. IsSmall q.relations (netlist_of made.net) (netlist_of c.in_ok-net.net)) (ap program_of c.in_ok-made.ensures.program ∙ h.program)
          c.in_ok-net.ensures;
    }
