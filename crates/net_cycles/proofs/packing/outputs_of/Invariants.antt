use Rattle.std.proofs.Common.{◌≡◌, map, take, drop}
use Rattle.est_kernel.specs.Plain.{program_of}
use Rattle.net_cycles.specs.Bases.{source_net}
use Rattle.net_cycles.proofs.packing.outputs_of.Given as goal

abbrev pub invariant-loop-place : goal.invariant-loop-place
invariant-loop-place l = record {
  names : map (λ o. o.name) l.outs.items ≡ take l.place (drop l.program.inputs (program_of l.program).signals);
  nets : map (λ o. o.net) l.outs.items ≡ map (source_net l.drawn.base l.drawn.copies.items l.drawn.rows.items) (take l.place l.sources);
}
