use Rattle.std.proofs.Common.{ap, map}
use Rattle.base_types.specs.Relations.{relation_of}
use Rattle.est_kernel.specs.Plain.{program_of}
use Rattle.net_ir.specs.Runs.{netlist_of}
use Rattle.cec_prove_sources.specs.DeviceVerdicts.{IsDeviceVerdict}
use Rattle.cec_prove_sources.specs.Verdicts.{IsVerdict}
use Rattle.cec_prove_sources.specs.Views.{plain_question}
use Rattle.cec_prove_sources.proofs.Joint.{of-program, program-verdict, related-as}
use Rattle.cec_prove_sources.proofs.verdicts.net_verdict.Goals as goal

pub device_verdict-requires : goal.device_verdict-requires
device_verdict-requires c = record {
  fits = related-as (netlist_of c.args.net.now) (program_of c.args.program.now) (map relation_of c.deref.result.now)
      (ap (map relation_of) c.deref.ensures.value) c.requires.fits c.requires.keeps;
}

pub returns : goal.returns
returns c =
    let net = netlist_of c.args.net.now in
    let p = program_of c.args.program.now in
    let q = plain_question c.args.question in
    of-program (λ d. IsDeviceVerdict d q) (IsVerdict p q) net (map relation_of c.deref.result.now) p.relations c.device_verdict.result
    (ap (map relation_of) c.deref.ensures.value) (program-verdict net p c.requires.fits c.requires.keeps q) c.device_verdict.ensures
