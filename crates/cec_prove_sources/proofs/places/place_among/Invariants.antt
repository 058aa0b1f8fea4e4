use Rattle.std.proofs.Common.{◌≡◌, drop, map}
use Rattle.net_ir.specs.declared.netlist.NetOut.{NetOut}
use Rattle.net_ir.specs.NameLists.{is_among}
use Rattle.cec_prove_sources.proofs.places.place_among.Given as goal

-- no output so far has the name
abbrev pub invariant-loop-k : goal.invariant-loop-k
invariant-loop-k l = is_among l.name (map (λ (o : NetOut). o.name) (drop l.k l.outputs)) ≡ is_among l.name (map (λ (o : NetOut). o.name) l.outputs)
