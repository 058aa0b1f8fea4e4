use Rattle.std.proofs.Common.{◌∙◌, ap, map}
use Rattle.base_types.specs.Relations.{relation_of}
use Rattle.est_kernel.specs.Plain.{program_of}
use Rattle.net_ir.specs.Runs.{netlist_of}
use Rattle.cec_prove_sources.specs.DeviceVerdicts.{IsDeviceVerdict}
use Rattle.cec_prove_sources.specs.Verdicts.{IsVerdict}
use Rattle.cec_prove_sources.specs.Views.{plain_question}
use Rattle.cec_prove_sources.proofs.Joint.{of-program, program-verdict, related-as}
use Rattle.cec_prove_sources.proofs.verdicts.encoded_verdict.Goals as goal

pub made_in-requires-clause-stands : goal.made_in-requires-clause-stands
made_in-requires-clause-stands c = (program_of c.args.compiled.graph.program, c.requires.compiled)

pub made_verdict-requires : goal.made_verdict-requires
made_verdict-requires c =
    let p = program_of c.args.compiled.graph.program in
    record {
      fits = related-as (netlist_of c.in_ok-made.made.net) p (map relation_of c.deref.result.now)
          (ap (map relation_of) c.deref.ensures.value ∙ ap (λ k. (program_of k).relations) c.in_ok-made.ensures.program) c.requires.fits
          (c.in_ok-made.ensures.net p c.requires.compiled).keeps;
    }

pub returns : goal.returns
returns c =
    let net = netlist_of c.in_ok-made.made.net in
    let p = program_of c.args.compiled.graph.program in
    let q = plain_question c.args.question in
    of-program (λ d. IsDeviceVerdict d q) (IsVerdict p q) net (map relation_of c.deref.result.now) p.relations c.made_verdict.result
    (ap (map relation_of) c.deref.ensures.value ∙ ap (λ k. (program_of k).relations) c.in_ok-made.ensures.program)
    (program-verdict net p c.requires.fits (c.in_ok-made.ensures.net p c.requires.compiled).keeps q) c.made_verdict.ensures
