use Rattle.std.proofs.Common.{ap, ◌∙◌, subst}
use Rattle.est_kernel.specs.Plain.{program_of}
use Rattle.cec_compile.specs.MadeNets.{IsSharedIn}
use Rattle.cec_compile.specs.WireGroups.{is_shared}
use Rattle.cec_compile.proofs.made.source_made.Goals as goal

pub made_in-requires-clause-stands : goal.made_in-requires-clause-stands
made_in-requires-clause-stands g c =
    let s = c.in_ok-compiled.ensures.compiles in
    (s.program, s.compiled)

pub returns-clause-made : goal.returns-clause-made
returns-clause-made g c =
    let s = c.in_ok-compiled.ensures.compiles in
    let e = c.in_ok-made.ensures in
    record {
      compiled = c.in_ok-compiled.compiled;
      source = s;
      follows = c.in_ok-compiled.ensures.follows;
      shares = subst (λ q. IsSharedIn c.args.form q (is_shared c.in_ok-compiled.compiled.graph)) s.compiled.program c.in_ok-compiled.ensures.shares;
      program = ap program_of e.program ∙ s.compiled.program;
      net = e.net s.program s.compiled;
    }
