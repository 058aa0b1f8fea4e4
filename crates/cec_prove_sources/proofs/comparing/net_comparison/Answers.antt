use Rattle.std.proofs.Common.{List, ap, map, subst}
use Rattle.std.specs.Prelude.{IfOk}
use Rattle.base_types.specs.Relations.{Relation, relation_of}
use Rattle.est_kernel.specs.Plain.{program_of}
use Rattle.net_ir.specs.Runs.{netlist_of}
use Rattle.cec_prove_sources.specs.DeviceSameness.{IsDeviceComparison}
use Rattle.cec_prove_sources.specs.NetDevices.{net_device}
use Rattle.cec_prove_sources.specs.Sameness.{IsComparison}
use Rattle.cec_prove_sources.proofs.Joint.{of-program, related-as}
use Rattle.cec_prove_sources.proofs.PairedRuns.{program-comparison}
use Rattle.cec_prove_sources.proofs.comparing.net_comparison.Goals as goal

pub device_comparison-requires : goal.device_comparison-requires
device_comparison-requires c = record {
  fits = related-as (netlist_of c.args.left.now.net) (program_of c.args.left.now.program) (map relation_of c.deref.result.now)
      (ap (map relation_of) c.deref.ensures.value) c.requires.fits c.requires.keeps;
}

pub returns : goal.returns
returns c =
    let left = netlist_of c.args.left.now.net in
    let right = netlist_of c.args.right.now.net in
    let p = program_of c.args.left.now.program in
    let q = program_of c.args.right.now.program in
    let others = map relation_of c.deref-2.result.now in
    of-program (λ d. IsDeviceComparison d (net_device q.relations right)) (IsComparison p q) left (map relation_of c.deref.result.now) p.relations
    c.device_comparison.result (ap (map relation_of) c.deref.ensures.value)
    (program-comparison left right p q c.requires.fits c.requires.right_fits c.requires.keeps c.requires.right_keeps)
    (subst (λ (rs : List Relation). IfOk c.device_comparison.result
    (IsDeviceComparison (net_device (map relation_of c.deref.result.now) left) (net_device rs right)))
    (ap (map relation_of) c.deref-2.ensures.value) c.device_comparison.ensures)
